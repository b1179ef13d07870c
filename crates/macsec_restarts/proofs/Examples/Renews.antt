-- A run of each end under GCM-AES-XPN-256, with keys of 32 octets, in which a key is renewed. A sends a frame under the
-- first key, deletes the SA and retires the key. Another key takes its number and its row, and A sends the same client
-- frame under it, with the same packet number. B delivers both frames.
use Rattle.macsec_aes.specs.declared.Key.TheVariants.{K256}
use Rattle.macsec_ahead.specs.Ahead.{command_forgetting}
use Rattle.macsec_commands.specs.declared.command.Command.TheVariants.{TxDel}
use Rattle.macsec_reserve.specs.Forgetting.{as_taken}
use Rattle.macsec_restarts.proofs.Examples.LongKeys.{aad, accepts, b_at, b_first, begun_a_sound, bytes, commands}
use Rattle.macsec_restarts.proofs.Examples.LongKeys.{config_of, delivery, entry, frame_in, frame_of, free, front, heard}
use Rattle.macsec_restarts.proofs.Examples.LongKeys.{heard_good, heard_sound, iv, k_begun, k_on, k_reserved, k_sent}
use Rattle.macsec_restarts.proofs.Examples.LongKeys.{key_at, link, lists, new_a, new_key, on_1_sound, options}
use Rattle.macsec_restarts.proofs.Examples.LongKeys.{own_kind, report_in, reserves, sa_a, sends, sent_1, sent_1_sound}
use Rattle.macsec_restarts.proofs.Examples.LongKeys.{sets_up_a, start_b, use_1}
use Rattle.macsec_restarts.proofs.Examples.Tags.{small_at, tag_is}
use Rattle.macsec_restarts.proofs.Examples.Told.{begun, commands_told, good_with, heard_by, is_strict, IsGood, IsKeyOf}
use Rattle.macsec_restarts.proofs.Examples.Told.{key_goes, on, on_with, set_up_told, Told}
use Rattle.macsec_restarts.proofs.Examples.Told.{told_end, told_link, told_next}
use Rattle.macsec_restarts.proofs.Examples.TwoRunsEach.{reads}
use Rattle.macsec_restarts.proofs.Examples.Without.{Premise}
use Rattle.macsec_restarts.proofs.Names.{[], ◌*◌, ◌++◌, ◌<◌, ◌^◌, ◌∷◌, ◌≡◌, ◌≤◌, add_round_key, added_word, aes}
use Rattle.macsec_restarts.proofs.Names.{affine_transformation, after_commands, after_rounds, Ahead, All-append}
use Rattle.macsec_restarts.proofs.Names.{are_small, AreKeyRows, AreOctets, arith, begins_again, byte_product}
use Rattle.macsec_restarts.proofs.Names.{can_replace, carried_step, cipher_use, CipherUse, client, client_frame}
use Rattle.macsec_restarts.proofs.Names.{Command, command, commands_sound, compress, Contains, Delivery, digest_bytes}
use Rattle.macsec_restarts.proofs.Names.{effect, ended_after, endpoint_input, Ends, false, fingerprint, first_words}
use Rattle.macsec_restarts.proofs.Names.{forgetting, forgetting_step, frame_step, genuine_at, hash_after}
use Rattle.macsec_restarts.proofs.Names.{IfSome, Inputs, InstalledKey, inverse, is_new}
use Rattle.macsec_restarts.proofs.Names.{is_within, IsSound, items, judgement_of, Keeping, keeping_step}
use Rattle.macsec_restarts.proofs.Names.{KeepingInput, kept, Key, key_expansion, key_words, keys_replacing, length}
use Rattle.macsec_restarts.proofs.Names.{link_frame, List, map, max_frame_len, may_go, may_send, mix_columns}
use Rattle.macsec_restarts.proofs.Names.{newly_sent, no_ends, no_salt, no_tx_counters, None, now_durable, open_of}
use Rattle.macsec_restarts.proofs.Names.{opens, operator_command, parts_with, polynomial_product, pre_counter_block}
use Rattle.macsec_restarts.proofs.Names.{raised_alone, ready_by_keys, receiving_name, refl, remainder, replacing}
use Rattle.macsec_restarts.proofs.Names.{replicate, Reservation, Retire, rot_word, round_key, rounds, row_at, RxDel}
use Rattle.macsec_restarts.proofs.Names.{RxOn, RxSa, s_box, salt, schedule, sci_a, sealed}
use Rattle.macsec_restarts.proofs.Names.{sending_name, sent_sound, SentIn, sha256, shift_rows, small, Some, start}
use Rattle.macsec_restarts.proofs.Names.{State, state_after_receiving, sub_bytes, sub_word, sum_below, sum_of_words}
use Rattle.macsec_restarts.proofs.Names.{sum_with_stream, sym, tag_of, tag_sent, true, tx_from, TxRow}
use Rattle.macsec_restarts.proofs.Names.{use_opened, use_sent, Uses, with_tag, ℕ}
use Rattle.macsec_restarts.specs.RenewingRuns.{ahead_renewing_step}
use Rattle.macsec_secy.proofs.KeyRenewed.{ready_by_keys as ready_by_renewing}
use Rattle.macsec_secy.specs.Renewing.{renewal_refusal}
use Rattle.macsec_suite.specs.KeyRows.{IsKeyRow}
use Rattle.macsec_suite.specs.Suites.{key_length}
use Rattle.macsec_suite.specs.declared.key_row.NewKey.{NewKey}
use Rattle.macsec_suite.specs.declared.suite.Suite.TheVariants.{Xpn256}
use Rattle.std.proofs.Common.{Ok}

is_row : {row : InstalledKey} → row.number < 4096 → length row.bytes ≡ key_length row.suite →
    length row.salt ≡ 12 → row.ssci < 2 ^ 32 → 1 ≤ row.first_unused → row.first_unused ≤ 2 ^ 64 → IsKeyRow row
is_row number bytes salt ssci least most = record {
  number = number;
  bytes = bytes;
  salt = salt;
  ssci = ssci;
  first_unused_least = least;
  first_unused = most;
}

-- a command that deletes an SA
deletes_by : (k : Keeping) (c : Command) (ended : Ends) {k' : Keeping} →
    ahead_renewing_step (on k) (command c) ≡ command_forgetting (on k) c →
    begins_again (on k) (operator_command c) ≡ false → forgetting_step k (command c) ≡ keeping_step k (command c) →
    (keeping_step k (command c)).1 ≡ k' →
    ended_after (on k) (operator_command c) ((keeping_step k (command c)).0, k') ≡ ended →
    (ahead_renewing_step (on k) (command c)).1 ≡ on_with ended k'
deletes_by k c ended other again same is ends = rw (other, again, same, is, ends)

-- ---- the keys

-- the octets of the second key
abbrev pub octets_2 : List ℕ
octets_2 = replicate 32 9

abbrev pub second : ℕ → NewKey
second own = record (new_key own) { bytes = K256 octets_2 }

-- its row
abbrev pub second_at : ℕ → ℕ → InstalledKey
second_at own unused = record (key_at own unused) { bytes = octets_2 }

-- the first key, once it is retired; and its fingerprint
abbrev was : ℕ → ℕ → InstalledKey
was own unused = record (key_at own unused) { retired = true }

abbrev pub print : List ℕ
print = fingerprint (salt false) bytes

can : (own unused : ℕ) → can_replace (was own unused ∷ []) 0 print ≡ true
unfolding first_words schedule rounds compress hash_after digest_bytes sha256
can own unused = refl

long : length print ≡ 32
unfolding first_words schedule rounds compress hash_after digest_bytes sha256
long = refl

forgotten_are : (own unused : ℕ) → own < 2 ^ 32 → 1 ≤ unused → unused ≤ 2 ^ 64 →
    AreKeyRows (keys_replacing (was own unused ∷ []) 0 print)
forgotten_are own unused fits least most =
    (is_row (omega arith) long refl (omega (arith, fits)) (omega (arith, least)) (omega (arith, most)), refl, tt)

second_are : (own : ℕ) → own < 2 ^ 32 → AreKeyRows (second_at own 1 ∷ [])
second_are own fits = (is_row (omega arith) refl refl (omega (arith, fits)) (omega arith) (omega arith), refl, tt)

-- all keys of an end have one suite, salt and own SSCI
good_one : {own : ℕ} {s : State} (key : InstalledKey) → s.keys ≡ key ∷ [] → IsKeyOf (own_kind own) key → IsSound s →
    IsGood (own_kind own) s
good_one key keys is sound = good_with key keys is (λ long. sound)

is_key : {own : ℕ} {key : InstalledKey} → key.suite ≡ Xpn256 → key.salt ≡ no_salt → key.ssci ≡ own →
    IsKeyOf (own_kind own) key
is_key suite salt' ssci = record { suite = suite; salt = salt'; ssci = ssci }

-- ---- names

abbrev pub name_2 : List ℕ
name_2 = sending_name (salt false) octets_2

-- the name that is given up
abbrev pub gone : List ℕ
gone = sending_name (salt false) print

abbrev pub entry_2 : ℕ → Reservation
entry_2 last = entry name_2 last

-- the endpoint under the second key
abbrev pub k_2 : ℕ → State → Keeping
k_2 reserved s = record (kept (salt false) (reads []) (entry_2 reserved ∷ []) s) { given_up = gone ∷ [] }

abbrev name_r : List ℕ
name_r = receiving_name name_2 sci_a 0

-- ---- the frame under the second key

abbrev pub icv_2 : List ℕ
icv_2 = tag_of octets_2 iv aad

abbrev pub f_2 : List ℕ
f_2 = frame_of icv_2

abbrev pub link_2 : KeepingInput
link_2 = endpoint_input (link_frame f_2)

abbrev pub use_2 : CipherUse
use_2 = cipher_use (second_at 1 1) iv
    (parts_with (tag_sent options (tx_from 1) (client 1)) (client 1) (with_tag icv_2))

abbrev pub sent_2 : SentIn
sent_2 = record { seal = use_2; number = 1; frame = client 1 }

-- it is octets
block_2 : are_small (aes octets_2 (pre_counter_block iv)) ≡ true
unfolding sum_with_stream pre_counter_block aes after_rounds add_round_key round_key mix_columns shift_rows sub_bytes
    key_expansion key_words added_word sum_of_words sub_word rot_word
    s_box affine_transformation inverse byte_product remainder polynomial_product sum_below
block_2 = refl

pub octets_of_2 : AreOctets f_2
octets_of_2 = All-append (λ x. x < 256) front (items 16 icv_2) (small front refl)
    (rw (sealed octets_2 iv aad) at (tag_is octets_2 iv aad (small_at _ block_2)))

-- ---- A's run

abbrev pub report_2 : KeepingInput
report_2 = now_durable (entry_2 2)

abbrev pub inputs_a : Inputs
inputs_a = command (Key (new_key 1)) ∷ (map command sa_a ++ (report_in ∷ frame_in ∷ command (TxDel 0)
    ∷ command (Retire 0) ∷ command (Key (second 1)) ∷ (map command sa_a ++ (report_2 ∷ frame_in ∷ []))))

abbrev deleted_a : State
deleted_a = effect k_sent.secy (TxDel 0)

abbrev retired_a : State
retired_a = effect deleted_a (Retire 0)

abbrev forgotten_a : State
forgotten_a = replacing 0 print retired_a

abbrev pub state_2 : ℕ → List TxRow → ℕ → State
state_2 unused rows count = record (start (config_of sci_a)) {
  keys = second_at 1 unused ∷ [];
  tx = rows;
  tx_counters = record no_tx_counters { out_pkts_protected = count; out_octets_protected = 2 * count };
}

abbrev renewed_a : State
renewed_a = state_2 1 [] 1

abbrev on_a : State
on_a = state_2 1 (row_at 1 true ∷ []) 1

abbrev pub last_state_a : State
last_state_a = state_2 2 (row_at 2 true ∷ []) 2

deleted_a_sound : IsSound deleted_a
deleted_a_sound = commands_sound (TxDel 0 ∷ []) refl refl sent_1_sound

retired_a_sound : IsSound retired_a
retired_a_sound = commands_sound (Retire 0 ∷ []) refl refl deleted_a_sound

forgotten_a_sound : IsSound forgotten_a
forgotten_a_sound =
    let it = ready_by_keys retired_a 0 print (keys_replacing retired_a.keys 0 print) true max_frame_len
    (sym (can 1 2)) refl tt (forgotten_are 1 2 (omega arith) (omega arith) (omega arith))
    (record { sound = retired_a_sound; room = refl }) in
    it.sound

abbrev k_forgot_a : Keeping
k_forgot_a = forgetting (record k_sent { secy = retired_a }) 0

fits_a : renewal_refusal forgotten_a (second 1) ≡ None
unfolding first_words schedule rounds compress hash_after digest_bytes sha256
fits_a = refl

taken_a : as_taken k_forgot_a (second 1) ≡ second 1
unfolding first_words schedule rounds compress hash_after digest_bytes sha256
taken_a = refl

renewed_a_sound : IsSound renewed_a
renewed_a_sound =
    let it = ready_by_renewing forgotten_a (second 1) (second_at 1 1 ∷ []) (Ok tt) max_frame_len
    (sym fits_a) refl tt (second_are 1 (omega arith)) (record { sound = forgotten_a_sound; room = refl }) in
    it.sound

on_a_sound : IsSound on_a
on_a_sound = commands_sound sa_a refl refl renewed_a_sound

last_a_sound : IsSound last_state_a
last_a_sound = sent_sound (client 1) refl refl on_a_sound

-- its steps

reserves_a : (ahead_renewing_step (on k_on) report_in).1 ≡ on k_reserved
reserves_a = rw reserves

sends_a : (ahead_renewing_step (on k_reserved) frame_in).1 ≡ on k_sent
sends_a = rw sends

deletes_a : (ahead_renewing_step (on k_sent) (command (TxDel 0))).1 ≡ on (record k_sent { secy = deleted_a })
deletes_a = deletes_by k_sent (TxDel 0) no_ends refl refl refl (carried_step k_sent (TxDel 0) refl refl) refl

retires_a : (ahead_renewing_step (on (record k_sent { secy = deleted_a })) (command (Retire 0))).1 ≡ on k_forgot_a
retires_a = rw (can 1 2)

renews_a : (ahead_renewing_step (on k_forgot_a) (command (Key (second 1)))).1 ≡ on (k_2 0 renewed_a)
renews_a =
    key_goes true false k_forgot_a (second 1) refl taken_a fits_a

reserves_2 : (ahead_renewing_step (on (k_2 0 on_a)) report_2).1 ≡ on (k_2 2 on_a)
reserves_2 = rw (raised_alone name_2 2)

goes_2 : may_go (k_2 2 on_a) (client_frame (client 1)) ≡ true
goes_2 = may_send (k_2 2 on_a) (client 1) 1 refl
    (is_within (reads []) name_2 1 2 (free name_2) (omega arith))

sends_2 : (ahead_renewing_step (on (k_2 2 on_a)) frame_in).1 ≡ on (k_2 2 last_state_a)
sends_2 = rw (frame_step (k_2 2 on_a) (client 1) goes_2)

seals_2 : use_sent options (second_at 1 1) (row_at 1 true) (client 1) ≡ use_2
seals_2 = rw (sealed octets_2 iv aad)

lists_2 : newly_sent (k_2 2 on_a) frame_in ≡ sent_2 ∷ []
lists_2 = rw (goes_2, seals_2)

abbrev first_of_a : ℕ → InstalledKey
first_of_a unused = key_at 1 unused

abbrev pub last_a : Ahead
last_a = on (k_2 2 last_state_a)

pub a_does : {left_out : Premise} {uses : Uses} → Told (own_kind 1) left_out uses (begun k_begun) inputs_a
    (sent_1 ∷ sent_2 ∷ []) [] last_a
a_does =
    let is_2 : IsKeyOf (own_kind 1) (second_at 1 1) = is_key refl refl refl in
    let on_1 = good_one (first_of_a 1) refl (is_key refl refl refl) on_1_sound in
    let on_2 = good_one (second_at 1 1) refl is_2 on_a_sound in
    set_up_told (config_of sci_a) (new_key 1) sa_a (salt false) (reads []) sets_up_a begun_a_sound new_a
    (told_next on_1 refl refl reserves_a (told_next on_1 lists refl sends_a
    (told_next (good_one (first_of_a 2) refl (is_key refl refl refl) sent_1_sound) refl refl deletes_a
    (told_next (good_one (first_of_a 2) refl (is_key refl refl refl) deleted_a_sound) refl refl retires_a
    (told_next (good_one (record (was 1 2) { bytes = print }) refl (is_key refl refl refl) forgotten_a_sound) refl
    refl renews_a (commands_told sa_a (is_new (reads []) name_2 1 (free name_2), (refl, tt)) refl
    (λ long. refl) refl (good_one (second_at 1 1) refl is_2 renewed_a_sound) (told_next on_2 refl refl reserves_2
    (told_next on_2 lists_2 refl sends_2
    (told_end last_a (good_one (second_at 1 2) refl (is_key refl refl refl) last_a_sound))))))))))

-- ---- B's run

abbrev pub sa_b : List Command
sa_b = RxSa sci_a 0 0 1 1 ∷ RxOn sci_a 0 ∷ []

abbrev pub then_commands : List Command
then_commands = RxDel sci_a 0 ∷ Retire 0 ∷ Key (second 2) ∷ sa_b

abbrev pub then_b : Inputs
then_b = map command then_commands

abbrev pub deleted_b : State
deleted_b = effect heard (RxDel sci_a 0)

abbrev pub retired_b : State
retired_b = effect deleted_b (Retire 0)

abbrev forgotten_b : State
forgotten_b = replacing 0 print retired_b

abbrev pub renewed_b : State
renewed_b = record retired_b { keys = second_at 2 1 ∷ [] }

abbrev pub ready_2 : State
ready_2 = after_commands renewed_b sa_b

abbrev pub heard_2 : State
heard_2 = state_after_receiving ready_2 f_2 accepts

deleted_b_sound : IsSound deleted_b
deleted_b_sound = commands_sound (RxDel sci_a 0 ∷ []) refl refl heard_sound

retired_b_sound : IsSound retired_b
retired_b_sound = commands_sound (Retire 0 ∷ []) refl refl deleted_b_sound

forgotten_b_sound : IsSound forgotten_b
forgotten_b_sound =
    let it = ready_by_keys retired_b 0 print (keys_replacing retired_b.keys 0 print) true max_frame_len
    (sym (can 2 1)) refl tt (forgotten_are 2 1 (omega arith) (omega arith) (omega arith))
    (record { sound = retired_b_sound; room = refl }) in
    it.sound

abbrev k_forgot_b : Keeping
k_forgot_b = forgetting (b_at retired_b) 0

fits_b : renewal_refusal forgotten_b (second 2) ≡ None
unfolding first_words schedule rounds compress hash_after digest_bytes sha256
fits_b = refl

taken_b : as_taken k_forgot_b (second 2) ≡ second 2
unfolding first_words schedule rounds compress hash_after digest_bytes sha256
taken_b = refl

renewed_b_sound : IsSound renewed_b
renewed_b_sound =
    let it = ready_by_renewing forgotten_b (second 2) (second_at 2 1 ∷ []) (Ok tt) max_frame_len
    (sym fits_b) refl tt (second_are 2 (omega arith)) (record { sound = forgotten_b_sound; room = refl }) in
    it.sound

ready_2_sound : IsSound ready_2
ready_2_sound = commands_sound sa_b refl refl renewed_b_sound

-- the second frame

opens_2 : open_of octets_2 iv aad [] (items 16 icv_2) ≡ Some []
opens_2 = opens octets_2 iv aad

pub judged_2 : judgement_of ready_2 f_2 ≡ accepts
judged_2 = rw opens_2

heard_2_sound : IsSound heard_2
heard_2_sound = heard_by f_2 refl judged_2 refl ready_2_sound

abbrev pub delivery_2 : Delivery
delivery_2 = record delivery { bytes = octets_2 }

-- its steps

abbrev ends_b : Ends
ends_b = record no_ends { entries = record { key = 0; sci = sci_a; an = 0; last = 1 } ∷ [] }

deletes_b : (ahead_renewing_step (on (b_at heard)) (command (RxDel sci_a 0))).1 ≡ on_with ends_b (b_at deleted_b)
deletes_b = deletes_by (b_at heard) (RxDel sci_a 0) ends_b refl refl refl
    (carried_step (b_at heard) (RxDel sci_a 0) refl refl) refl

retires_b : (ahead_renewing_step (on_with ends_b (b_at deleted_b)) (command (Retire 0))).1 ≡ on k_forgot_b
retires_b = rw (can 2 1)

renews_b : (ahead_renewing_step (on k_forgot_b) (command (Key (second 2)))).1 ≡ on (k_2 0 renewed_b)
renews_b =
    key_goes true false k_forgot_b (second 2) refl taken_b fits_b

pub genuine_2 : (uses : Uses) → Contains uses use_2 → IfSome (use_opened ready_2 f_2) (Contains uses)
genuine_2 uses there = genuine_at ready_2 f_2 accepts uses judged_2 there

abbrev pub last_b : Ahead
last_b = on (k_2 0 heard_2)

pub b_does : {left_out : Premise} {uses : Uses} → Contains uses use_1 → Contains uses use_2 →
    Told (own_kind 2) left_out uses (begun (b_at start_b)) (commands ++ (link ∷ (then_b ++ link_2 ∷ []))) []
    (delivery ∷ delivery_2 ∷ []) last_b
b_does {uses} there there_2 =
    let first : IsKeyOf (own_kind 2) (key_at 2 1) = is_key refl refl refl in
    let is_2 : IsKeyOf (own_kind 2) (second_at 2 1) = is_key refl refl refl in
    b_first there (told_next heard_good refl refl deletes_b
    (told_next (good_one (key_at 2 1) refl first deleted_b_sound) refl refl retires_b
    (told_next (good_one (record (was 2 1) { bytes = print }) refl (is_key refl refl refl) forgotten_b_sound) refl refl
    renews_b (commands_told sa_b (is_new (reads []) name_r 1 (free name_r), (refl, tt)) refl (λ long. refl)
    refl (good_one (second_at 2 1) refl is_2 renewed_b_sound) (told_link accepts refl judged_2
    (good_one (second_at 2 1) refl is_2 ready_2_sound) (is_strict refl refl refl) octets_of_2
    (λ d. genuine_2 uses there_2) (told_end last_b (good_one (second_at 2 1) refl is_2 heard_2_sound)))))))

-- the keys of B before the renewal and after it: the number is the same
pub keys_before : heard.keys ≡ key_at 2 1 ∷ []
keys_before = refl

pub keys_after : heard_2.keys ≡ second_at 2 1 ∷ []
keys_after = refl

-- Runs with extended packet numbers that meet all premises of order but one, and in which B delivers a client
-- frame that A never sent with that packet number: B has another own SSCI in its second run, or another salt, and
-- receives the frame that it sent in its first one; the key has another salt at B, under which the frame has the IV of
-- another packet number; or the salt has no octets at both ends, which are not sound, so that all packet numbers have
-- one IV.
use Rattle.macsec_counterexamples.proofs.Restarts.Tables.{begins_well}
use Rattle.macsec_restarts.proofs.Examples.Blocks.{blocks, EndRun, sealed_in}
use Rattle.macsec_restarts.proofs.Examples.Histories.{breaks, delivered_by_two, Facts, facts_of, is_sound, IsRunOf}
use Rattle.macsec_restarts.proofs.Examples.Histories.{keeps_delivered, KindsAgree, Meets, meets_all, meets_by}
use Rattle.macsec_restarts.proofs.Examples.Histories.{meets_of_b, MeetsAll, never, of_run, one, pair, two_runs_of_b}
use Rattle.macsec_restarts.proofs.Examples.Histories.{without_option}
use Rattle.macsec_restarts.proofs.Examples.NotSent.{names_differ, not_of_none}
use Rattle.macsec_restarts.proofs.Examples.Tags.{small_at, tag_is}
use Rattle.macsec_restarts.proofs.Examples.Told.{begun, gives_by, good, heard_by, is_strict, IsGood, key_of}
use Rattle.macsec_restarts.proofs.Examples.Told.{Kind, link_gives, link_goes, link_step_by, on, set_up_told, SetsUp}
use Rattle.macsec_restarts.proofs.Examples.Told.{Told, told_end, told_gives, told_next}
use Rattle.macsec_restarts.proofs.Examples.TwoRunsEach.{is_free, none_is, reads, reserved_2}
use Rattle.macsec_restarts.proofs.Examples.TwoRunsEach.{reserved_is, t}
use Rattle.macsec_restarts.proofs.Examples.Without.{HasOneSalt, HasOneSuite, HasStrictOrderBut, KeepsDeliveredBut}
use Rattle.macsec_restarts.proofs.Examples.Without.{KeepsSalt, KeepsSentBut, KeepsSsci, KeepsSuite, LawWithout}
use Rattle.macsec_restarts.proofs.Examples.Without.{NoPremise, Premise, StaysSoundAlways}
use Rattle.macsec_restarts.proofs.Names.{[], ◌*◌, ◌++◌, ◌+◌, ◌<◌, ◌^◌, ◌∙◌, ◌∷◌, ◌≡◌, ◌≢◌, A, aad_sent, add_round_key}
use Rattle.macsec_restarts.proofs.Names.{added_word, aes, affine_transformation, after_commands, after_rounds, Ahead}
use Rattle.macsec_restarts.proofs.Names.{All-append, All-nil, ap, are_small, AreNew, AreOctets, arith, at_row, B}
use Rattle.macsec_restarts.proofs.Names.{begins_sound, Bool, byte_product, bytes, cipher_use, CipherUse, client}
use Rattle.macsec_restarts.proofs.Names.{client_frame, Command, command, commands_sound, Contains, delivered_by}
use Rattle.macsec_restarts.proofs.Names.{Delivery, EndConfig, endpoint_input, false, frame_fault, frame_step}
use Rattle.macsec_restarts.proofs.Names.{frame_with, genuine_at, highest, highest_of_one, IfSome, Inputs, installed_key}
use Rattle.macsec_restarts.proofs.Names.{InstalledKey, inverse, is_new, is_within, IsSound, IsSubsequence, items, iv_of}
use Rattle.macsec_restarts.proofs.Names.{journal, Judgement, judgement_of, Keeping, keeping_step, KeepingInput, kept}
use Rattle.macsec_restarts.proofs.Names.{Key, key_expansion, key_words, length, link_frame, List, map, may_go, may_send}
use Rattle.macsec_restarts.proofs.Names.{mix_columns, name_of, new_key, newly_sent, no_pairs, no_salt, no_tx_counters}
use Rattle.macsec_restarts.proofs.Names.{None, now_durable, one_alone, open_of, opens, parts_with, Passed}
use Rattle.macsec_restarts.proofs.Names.{polynomial_product, pre_counter_block, raised_alone, refl, remainder}
use Rattle.macsec_restarts.proofs.Names.{replicate, Reservation, rot_word, round_key, row_at, Run, rx_from, RxOn, RxRow}
use Rattle.macsec_restarts.proofs.Names.{RxSa, RxSc, s_box, salt, Sci, sci_a, sci_b, Sealed, sealed, sending_name}
use Rattle.macsec_restarts.proofs.Names.{sent_sound, SentIn, shift_rows, slice_get, small, Some, start, State}
use Rattle.macsec_restarts.proofs.Names.{state_after_receiving, sub_bytes, sub_word, sum_below, sum_of_words}
use Rattle.macsec_restarts.proofs.Names.{sum_with_stream, sym, tables_fit, tag_of, tag_sent, take, true, tx_from}
use Rattle.macsec_restarts.proofs.Names.{tx_options, TxOn, TxOptions, TxRow, TxSa, use_opened, use_sent, Uses, with_tag}
use Rattle.macsec_restarts.proofs.Names.{Xpn128, zero, ℕ}
use Rattle.macsec_restarts.specs.RenewingOrder.{KeepsDeliveredWith, KeepsSentWith}
use Rattle.macsec_commands.specs.declared.form.TagForm.TheVariants as form

-- a configuration in which no sent frame carries the SCI
abbrev pub config_of : Sci → EndConfig
config_of sci = record { suite = Xpn128; sci = sci; max_frame = 1518; form = form.Auto }

abbrev pub kind_of : List ℕ → ℕ → Kind
kind_of key_salt ssci = record { suite = Xpn128; salt = key_salt; ssci = ssci }

abbrev pub key_at : List ℕ → ℕ → ℕ → InstalledKey
key_at key_salt ssci unused = installed_key Xpn128 key_salt ssci unused

-- ---- the frame, with packet number 1: under a key with a salt, or with one of no octets

pub data Salt : Type 0 where
  Zeros : Salt
  Empty : Salt

abbrev of_salt : Salt → List ℕ
of_salt Zeros = no_salt
of_salt Empty = []

abbrev pub options : TxOptions
options = tx_options (start (config_of sci_b))

abbrev pub iv : Salt → List ℕ
iv s = iv_of Xpn128 sci_b 1 (of_salt s) 1

abbrev pub aad : List ℕ
aad = aad_sent options (key_at no_salt 1 1) (tx_from 1) (client 1)

abbrev use_by : Salt → Sealed → CipherUse
use_by s it = cipher_use (key_at (of_salt s) 1 1) (iv s)
    (parts_with (tag_sent options (tx_from 1) (client 1)) (client 1) it)

abbrev icv : Salt → List ℕ
icv s = tag_of bytes (iv s) aad

abbrev pub frame_of : List ℕ → List ℕ
frame_of t = frame_with (tag_sent options (tx_from 1) (client 1)) (client 1) (with_tag t)

abbrev pub use_of : Salt → CipherUse
use_of s = use_by s (with_tag (icv s))

opens_it : (s : Salt) → open_of bytes (iv s) aad [] (items 16 (icv s)) ≡ Some []
opens_it s = opens bytes (iv s) aad

-- it is octets
block : (s : Salt) → are_small (aes bytes (pre_counter_block (iv s))) ≡ true
unfolding sum_with_stream pre_counter_block aes after_rounds add_round_key round_key mix_columns shift_rows sub_bytes
    key_expansion key_words added_word sum_of_words sub_word rot_word
    s_box affine_transformation inverse byte_product remainder polynomial_product sum_below
block Zeros = refl
block Empty = refl

abbrev pub front : List ℕ
front = take 22 (frame_of [])

pub octets : (s : Salt) → AreOctets (frame_of (icv s))
octets s = All-append (λ x. x < 256) front (items 16 (icv s)) (small front refl)
    (rw (sealed bytes (iv s) aad) at (tag_is bytes _ aad (small_at _ (block s))))

-- ---- the run that sends it, at either end

abbrev pub frame_in : KeepingInput
frame_in = endpoint_input (client_frame (client 1))

abbrev pub report_in : KeepingInput
report_in = now_durable reserved_2

abbrev tx_sa : List Command
tx_sa = TxSa 0 0 1 false ∷ TxOn 0 ∷ []

abbrev pub sends : Salt → Inputs
sends s = map command (Key (new_key (of_salt s) 1) ∷ tx_sa) ++ report_in ∷ frame_in ∷ []

abbrev tx_state : Salt → Sci → ℕ → List TxRow → ℕ → State
tx_state s sci unused rows count = record (start (config_of sci)) {
  keys = key_at (of_salt s) 1 unused ∷ [];
  tx = rows;
  tx_counters = record no_tx_counters { out_pkts_protected = count; out_octets_protected = 2 * count };
}

abbrev pub sent_1 : Salt → SentIn
sent_1 s = record { seal = use_of s; number = 1; frame = client 1 }

abbrev pub tx_name : List ℕ
tx_name = sending_name (salt false) bytes

pub name_free : highest (reads []) tx_name < 1
name_free = is_free [] tx_name 1 none_is (omega arith)

abbrev pub tx_at : List Reservation → State → Keeping
tx_at granted s = kept (salt false) (reads []) granted s

module _ (sci : Sci) where
  abbrev pub k_begun : Keeping
  k_begun = tx_at [] (start (config_of sci))

  abbrev pub k_on : Salt → Keeping
  k_on s = tx_at [] (tx_state s sci 1 (row_at 1 true ∷ []) 0)

  abbrev pub k_reserved : Salt → Keeping
  k_reserved s = tx_at (reserved_2 ∷ []) (tx_state s sci 1 (row_at 1 true ∷ []) 0)

  abbrev pub k_sent : Salt → Keeping
  k_sent s = tx_at (reserved_2 ∷ []) (tx_state s sci 2 (row_at 2 true ∷ []) 1)

  seals : (s : Salt) → use_sent (tx_options (start (config_of sci))) (key_at (of_salt s) 1 1) (row_at 1 true)
      (client 1) ≡ use_of s
  seals s = rw (sealed bytes (iv s) aad)

  pub tx_new : (s : Salt) → AreNew k_begun (Key (new_key (of_salt s) 1) ∷ tx_sa)
  tx_new s = (refl, (is_new (reads []) tx_name 1 name_free, (refl, tt)))

  pub reserves : (s : Salt) → (keeping_step (k_on s) report_in).1 ≡ k_reserved s
  reserves s = rw (raised_alone tx_name 2)

  pub goes : (s : Salt) → may_go (k_reserved s) (client_frame (client 1)) ≡ true
  goes s = may_send (k_reserved s) (client 1) 1 refl (is_within _ tx_name 1 2 name_free (omega arith))

  pub lists : (s : Salt) → newly_sent (k_reserved s) frame_in ≡ sent_1 s ∷ []
  lists s = rw (goes s, seals s)

  module _ (well : begins_well (config_of sci) ≡ true) where
    pub first_sound : IsSound (start (config_of sci))
    first_sound = begins_sound _ well

    pub on_sound : IsSound (tx_state Zeros sci 1 (row_at 1 true ∷ []) 0)
    on_sound = commands_sound (Key (new_key (of_salt Zeros) 1) ∷ tx_sa) refl refl first_sound

    pub last_sound_a : IsSound (tx_state Zeros sci 2 (row_at 2 true ∷ []) 1)
    last_sound_a = sent_sound (client 1) refl refl on_sound

    tx_sets_up : (s : Salt) → SetsUp (kind_of (of_salt s) 1) (config_of sci) (new_key (of_salt s) 1) tx_sa
    tx_sets_up Zeros = record { fits = refl; none = refl; fit = λ long. refl; keep = refl; keys = refl }
    tx_sets_up Empty = record { fits = refl; none = refl; fit = λ long. cc; keep = refl; keys = refl }

    -- it is sound under a key with a salt
    on_good : (s : Salt) → IsGood (kind_of (of_salt s) 1) (tx_state s sci 1 (row_at 1 true ∷ []) 0)
    on_good Zeros = good (kind_of (of_salt Zeros) 1) 1 refl (λ long. on_sound)
    on_good Empty = good (kind_of (of_salt Empty) 1) 1 refl (λ long. cc)

    last_good : (s : Salt) → IsGood (kind_of (of_salt s) 1) (tx_state s sci 2 (row_at 2 true ∷ []) 1)
    last_good Zeros = good (kind_of (of_salt Zeros) 1) 2 refl (λ long. last_sound_a)
    last_good Empty = good (kind_of (of_salt Empty) 1) 2 refl (λ long. cc)

    sender_told : {left_out : Premise} {uses : Uses} (s : Salt) → Told (kind_of (of_salt s) 1) left_out uses
        (begun k_begun) (sends s) (sent_1 s ∷ []) [] (on (k_sent s))
    sender_told s = set_up_told (config_of sci) (new_key (of_salt s) 1) tx_sa (salt false) (reads []) (tx_sets_up s)
        first_sound (tx_new s) (told_next (on_good s) refl refl (ap on (reserves s))
        (told_next (on_good s) (lists s) refl (ap on (frame_step (k_reserved s) (client 1) (goes s)))
        (told_end (on (k_sent s)) (last_good s))))

abbrev run_s : Salt → Sci → Run
run_s s sci = record { journal = journal false []; config = config_of sci; inputs = sends s }

-- ---- B receives it: with the same salt, from packet number 1 on; from 2^32 on, with a salt that flips the lowest bit
-- of the upper half, or with one of no octets; or with a salt under which A's SSCI gives the IV of B's own

pub data Receiver : Type 0 where
  Same : Receiver
  Salted : Receiver
  Unsalted : Receiver
  Turned : Receiver

-- the salt at the sender
abbrev sender_salt : Receiver → Salt
sender_salt Unsalted = Empty
sender_salt _ = Zeros

abbrev salt_of_key : Receiver → List ℕ
salt_of_key Same = no_salt
salt_of_key Salted = replicate 7 0 ++ 1 ∷ replicate 4 0
salt_of_key Unsalted = []
salt_of_key Turned = 0 ∷ 0 ∷ 0 ∷ 3 ∷ replicate 8 0

abbrev lowest_of : Receiver → ℕ
lowest_of Salted = 2 ^ 32
lowest_of Unsalted = 2 ^ 32
lowest_of _ = 1

abbrev number_of : Receiver → ℕ
number_of Salted = 2 ^ 32 + 1
number_of Unsalted = 2 ^ 32 + 1
number_of _ = 1

-- B's own SSCI, and A's at B
abbrev own_ssci : Receiver → ℕ
own_ssci Turned = 1
own_ssci r = 2

abbrev peer_ssci : Receiver → ℕ
peer_ssci Turned = 2
peer_ssci r = 1

abbrev pub rx_kind : Receiver → Kind
rx_kind r = kind_of (salt_of_key r) (own_ssci r)

abbrev pub rx_key : Receiver → InstalledKey
rx_key r = key_of (rx_kind r) 1

abbrev pub rx_sa : Receiver → List Command
rx_sa r = RxSc sci_a ∷ RxSa sci_a 0 0 (peer_ssci r) (lowest_of r) ∷ RxOn sci_a 0 ∷ []

abbrev pub set_up : Receiver → List Command
set_up r = Key (new_key (salt_of_key r) (own_ssci r)) ∷ rx_sa r

abbrev pub ready : Receiver → State
ready r = after_commands (start (config_of sci_b)) (set_up r)

abbrev pub commands : Receiver → Inputs
commands r = map command (set_up r)

abbrev pub f : Receiver → List ℕ
f r = frame_of (icv (sender_salt r))

abbrev pub link : Receiver → KeepingInput
link r = endpoint_input (link_frame (f r))

abbrev row_from : Receiver → RxRow
row_from r = record (rx_from (lowest_of r)) { ssci = peer_ssci r }

abbrev pub accepts : Receiver → Judgement
accepts r = at_row (row_from r) (number_of r) 13 Passed (Some (client 1))

pub iv_is : (r : Receiver) → iv_of Xpn128 sci_a (peer_ssci r) (salt_of_key r) (number_of r) ≡ iv (sender_salt r)
unfolding sum_with_stream
iv_is Same = refl
iv_is _ = refl

opens_as : (r : Receiver) → open_of bytes (iv_of Xpn128 sci_a (peer_ssci r) (salt_of_key r) (number_of r)) aad []
    (items 16 (icv (sender_salt r))) ≡ Some []
opens_as r = rw (iv_is r, opens_it _)

pub judged : (r : Receiver) → judgement_of (ready r) (f r) ≡ accepts r
judged Same = rw (opens_as Same)
judged Turned = rw (opens_as Turned)
judged it = rw (opens_as it)

whole : (r : Receiver) → frame_fault (f r) ≡ None
whole Same = refl
whole _ = refl

abbrev pub heard : Receiver → State
heard r = state_after_receiving (ready r) (f r) (accepts r)

abbrev pub delivery : Receiver → Delivery
delivery r = record { bytes = bytes; sci = sci_a; an = 0; number = number_of r; frame = client 1 }

abbrev has_salt : Receiver → Bool
has_salt Unsalted = false
has_salt r = true

salted : (r : Receiver) → length (salt_of_key r) ≡ 12 → has_salt r ≡ true
salted Unsalted long = cc
salted r long = refl

module _ (before : List Reservation) (free : highest (reads before) (name_of (salt false)) < 1) where
  abbrev pub at : State → Keeping
  at s = kept (salt false) (reads before) [] s

  pub are_new : (r : Receiver) → AreNew (at (start (config_of sci_b))) (set_up r)
  are_new Same = (refl, (refl, (is_new (reads before) (name_of (salt false)) 1 free, (refl, tt))))
  are_new Turned = (refl, (refl, (is_new (reads before) (name_of (salt false)) 1 free, (refl, tt))))
  are_new _ = (refl, (refl, (is_new (reads before) (name_of (salt false)) (2 ^ 32) (omega (arith, free)), (refl, tt))))

  pub genuine : (r : Receiver) (uses : Uses) → Contains uses (use_of (sender_salt r)) →
      IfSome (use_opened (ready r) (f r)) (Contains uses)
  genuine Unsalted uses there = genuine_at (ready Unsalted) (f Unsalted) (accepts Unsalted) uses (judged Unsalted)
      (rw (iv_is Unsalted) there)
  genuine it uses there = genuine_at (ready it) (f it) (accepts it) uses (judged it) (rw (iv_is it) there)

  strict : {left_out : Premise} (r : Receiver) → HasStrictOrderBut left_out (ready r)
  strict Same = is_strict refl refl refl
  strict _ = is_strict refl refl refl

  gives : (r : Receiver) → delivered_by (ready r) (accepts r) None (accepts r).row (accepts r).delivered ≡
      delivery r ∷ []
  gives Same = refl
  gives _ = refl

  -- ---- it is sound, with a salt of 12 octets

  pub rx_start : IsSound (start (config_of sci_b))
  rx_start = begins_sound _ refl

  sets_up : (r : Receiver) → SetsUp (rx_kind r) (config_of sci_b) (new_key (salt_of_key r) (own_ssci r)) (rx_sa r)
  sets_up Unsalted = record { fits = refl; none = refl; fit = λ long. cc; keep = refl; keys = refl }
  sets_up _ = record { fits = refl; none = refl; fit = λ long. refl; keep = refl; keys = refl }

  pub ready_sound : (r : Receiver) → length (salt_of_key r) ≡ 12 → IsSound (ready r)
  ready_sound r long = commands_sound (set_up r) (sets_up r).none ((sets_up r).fit long) rx_start

  heard_fits : (r : Receiver) → has_salt r ≡ true → tables_fit (heard r) ≡ true
  heard_fits Unsalted is = cc
  heard_fits r _ = refl

  pub heard_is_sound : (r : Receiver) → length (salt_of_key r) ≡ 12 → IsSound (heard r)
  heard_is_sound r long =
      heard_by (f r) (whole r) (judged r) (heard_fits r (salted r long)) (ready_sound r long)

  keys_ready : (r : Receiver) → (ready r).keys ≡ rx_key r ∷ []
  keys_ready Same = refl
  keys_ready _ = refl

  keys_heard : (r : Receiver) → (heard r).keys ≡ rx_key r ∷ []
  keys_heard Same = refl
  keys_heard _ = refl

  pub ready_good : (r : Receiver) → IsGood (rx_kind r) (ready r)
  ready_good r = good (rx_kind r) 1 (keys_ready r) (ready_sound r)

  pub heard_good : (r : Receiver) → IsGood (rx_kind r) (heard r)
  heard_good r = good (rx_kind r) 1 (keys_heard r) (heard_is_sound r)

  -- the frame is delivered
  pub frame_told : {left_out : Premise} {uses : Uses} (r : Receiver) {inputs : Inputs} {ds : List Delivery}
      {last : Ahead} → Contains uses (use_of (sender_salt r)) →
      Told (rx_kind r) left_out uses (on (at (heard r))) inputs [] ds last →
      Told (rx_kind r) left_out uses (on (at (ready r))) (link r ∷ inputs) [] (delivery r ∷ ds) last
  frame_told {uses} r there rest = told_gives {now = []} (ready_good r) refl
      (link_gives (at (ready r)) (f r) (gives_by (at (ready r)) (f r) (accepts r) (whole r) (judged r) ∙ gives r))
      (λ some. record {
        order = strict r;
        octets = octets (sender_salt r);
        genuine = λ d. genuine r uses there;
      }) (link_goes (at (ready r)) (f r) (link_step_by (at (ready r)) (f r) (accepts r) (whole r) (judged r))) rest

  pub commands_first : {left_out : Premise} {uses : Uses} (r : Receiver) {inputs : Inputs} {ds : List Delivery}
      {last : Ahead} → Told (rx_kind r) left_out uses (on (at (ready r))) inputs [] ds last →
      Told (rx_kind r) left_out uses (begun (at (start (config_of sci_b)))) (commands r ++ inputs) [] ds last
  commands_first r rest =
      set_up_told (config_of sci_b) (new_key (salt_of_key r) (own_ssci r)) (rx_sa r) (salt false) (reads before)
      (sets_up r) rx_start (are_new r) rest

  receiver_told : {left_out : Premise} {uses : Uses} (r : Receiver) →
      Contains uses (use_of (sender_salt r)) →
      Told (rx_kind r) left_out uses (begun (at (start (config_of sci_b)))) (commands r ++ link r ∷ []) []
      (delivery r ∷ []) (on (at (heard r)))
  receiver_told r there = commands_first r (frame_told r there (told_end (on (at (heard r))) (heard_good r)))

-- ---- B has another own SSCI or another salt in its second run, and delivers what it sent in the first one

abbrev run_r : Receiver → Run
run_r r = record {
  journal = journal false (reserved_2 ∷ []);
  config = config_of sci_b;
  inputs = commands r ++ link r ∷ [];
}

abbrev first_run : Run
first_run = run_s Zeros sci_b

free_r : highest (reads (reserved_2 ∷ [])) (name_of (salt false)) < 1
free_r = is_free (reserved_2 ∷ []) (name_of (salt false)) 1 reserved_is
    (omega (arith, highest_of_one reserved_2 (name_of (salt false)) false names_differ))

abbrev own_kind : Kind
own_kind = kind_of no_salt 1

does_s : (left_out : Premise) → Facts own_kind sci_b left_out [] (without_option first_run) (sent_1 Zeros ∷ []) []
does_s left_out = facts_of refl (sender_told sci_b refl Zeros)

does_r : (left_out : Premise) (r : Receiver) (uses : Uses) → Contains uses (use_of (sender_salt r)) →
    Facts (rx_kind r) sci_b left_out uses (without_option (run_r r)) [] (delivery r ∷ [])
does_r left_out r uses there = facts_of refl
    (receiver_told (reserved_2 ∷ []) free_r r there)

abbrev reflected : Receiver → List EndRun
reflected r = (B, first_run) ∷ (B, run_r r) ∷ []

module _ (left_out : Premise) (r : Receiver) (long : length (salt_of_key r) ≡ 12) (seals_so : sender_salt r ≡ Zeros)
    (agree : KindsAgree KeepsSuite KeepsSalt left_out own_kind (rx_kind r))
    (ssci : KeepsSsci ≢ left_out → 1 ≡ own_ssci r) where
  first : Facts own_kind sci_b left_out [] (without_option first_run) (sent_1 Zeros ∷ []) []
  first = does_s left_out

  sealed_s : Contains (sealed_in never ((B, first_run) ∷ [])) (use_of Zeros)
  sealed_s = rw first.told.sends (0, omega arith, refl)

  second : Facts (rx_kind r) sci_b left_out (sealed_in never ((B, first_run) ∷ [])) (without_option (run_r r)) []
      (delivery r ∷ [])
  second = does_r left_out r (sealed_in never ((B, first_run) ∷ [])) (rw seals_so sealed_s)

  it_meets : Meets left_out never (reflected r) [] (delivery r ∷ [])
  it_meets = meets_of_b first_run (run_r r) (is_sound (without_option first_run) refl (of_run first))
      (is_sound (without_option (run_r r)) long (of_run second))
      (two_runs_of_b left_out own_kind (rx_kind r) (without_option first_run) (without_option (run_r r)) agree
      (λ d xpn. ssci d) (λ d. refl) (of_run first) (of_run second)) (first.told.fair, (second.told.fair, tt))
      (delivered_by_two (without_option first_run) (without_option (run_r r)) first.told.delivers
      second.told.delivers)

  reflects : LawWithout left_out never (blocks (reflected r)) → ⊥
  reflects = breaks never (reflected r) left_out it_meets (no_pairs (KeepsSentBut left_out bytes))
      (pair (KeepsDeliveredBut left_out bytes sci_a 0) (without_option first_run) (without_option (run_r r))
      (λ d. keeps_delivered (without_option first_run) (without_option (run_r r)) first.told.delivers (All-nil _)))
      (not_of_none (number_of r ∷ client 1))

pub same_ssci_needed : LawWithout KeepsSsci never (blocks (reflected Same)) → ⊥
same_ssci_needed =
    reflects KeepsSsci Same refl refl (record { suite = λ d. refl; salt = λ d xpn. refl }) (λ d. absurd (d refl))

pub kept_salt_needed : LawWithout KeepsSalt never (blocks (reflected Turned)) → ⊥
kept_salt_needed =
    reflects KeepsSalt Turned refl refl (record { suite = λ d. refl; salt = λ d. absurd (d refl) }) (λ d. refl)

-- ---- the key has another salt at B, or none at both: B delivers A's frame with another packet number

abbrev run_b : Receiver → Run
run_b r = record { journal = journal false []; config = config_of sci_b; inputs = commands r ++ link r ∷ [] }

abbrev pub run_a : Receiver → Run
run_a r = run_s (sender_salt r) sci_a

pub free_b : highest (reads []) (name_of (salt false)) < 1
free_b = is_free [] _ 1 none_is (omega arith)

abbrev shifted : Receiver → List EndRun
shifted r = (A, run_a r) ∷ (B, run_b r) ∷ []

abbrev tx_kind : Receiver → Kind
tx_kind r = kind_of (of_salt (sender_salt r)) 1

-- what is delivered has another packet number than what was sent
not_of_other : (m n : ℕ) (x y : List ℕ) → (m ≡ n → ⊥) → IsSubsequence ((m ∷ x) ∷ []) ((n ∷ y) ∷ []) → ⊥
not_of_other m n x y differ it = by_places it.0 it.2
  where
    by_places : (places : List ℕ) → map (slice_get ((n ∷ y) ∷ [])) places ≡ Some (m ∷ x) ∷ [] → ⊥
    by_places (zero ∷ _) same = let one : n ≡ m = cc in differ (sym one)
    by_places _ same = cc

module _ (left_out : Premise) (r : Receiver) where
  does_a : Facts (tx_kind r) sci_a left_out [] (without_option (run_a r)) (sent_1 (sender_salt r) ∷ []) []
  does_a = facts_of refl (sender_told sci_a refl (sender_salt r))

  sealed_a : Contains (sealed_in never ((A, run_a r) ∷ [])) (use_of (sender_salt r))
  sealed_a = rw does_a.told.sends (0, omega arith, refl)

  does_b : Facts (rx_kind r) sci_b left_out (sealed_in never ((A, run_a r) ∷ [])) (without_option (run_b r)) []
      (delivery r ∷ [])
  does_b = facts_of refl (receiver_told [] free_b r sealed_a)

  shifts : KindsAgree HasOneSuite HasOneSalt left_out (tx_kind r) (rx_kind r) →
      (StaysSoundAlways ≢ left_out → (length (tx_kind r).salt ≡ 12) × (length (rx_kind r).salt ≡ 12)) →
      Meets left_out never (shifted r) (sent_1 (sender_salt r) ∷ []) (delivery r ∷ [])
  shifts agree long = meets_by (tx_kind r) (rx_kind r) agree long
      (one (IsRunOf (tx_kind r) sci_a) (without_option (run_a r)) (of_run does_a))
      (one (IsRunOf (rx_kind r) sci_b) (without_option (run_b r)) (of_run does_b)) (tt, (does_b.told.fair, tt))
      (rw does_a.told.sends) (rw does_b.told.delivers)

pub same_salt_needed : LawWithout HasOneSalt never (blocks (shifted Salted)) → ⊥
same_salt_needed = breaks never (shifted Salted) HasOneSalt
    (shifts HasOneSalt Salted (record { suite = λ d. refl; salt = λ d. absurd (d refl) }) (λ d. (refl, refl)))
    (one_alone (KeepsSentBut HasOneSalt bytes) (without_option (run_a Salted)))
    (one_alone (KeepsDeliveredBut HasOneSalt bytes sci_a 0) (without_option (run_b Salted)))
    (not_of_other (2 ^ 32 + 1) 1 (client 1) (client 1) (λ same. omega (arith, same)))

-- no call installs a key whose salt has no octets: its endpoint is not sound
pub soundness_needed : LawWithout StaysSoundAlways never (blocks (shifted Unsalted)) → ⊥
soundness_needed = breaks never (shifted Unsalted) StaysSoundAlways
    (shifts StaysSoundAlways Unsalted (record { suite = λ d. refl; salt = λ d xpn. refl }) (λ d. absurd (d refl)))
    (one_alone (KeepsSentBut StaysSoundAlways bytes) (without_option (run_a Unsalted)))
    (one_alone (KeepsDeliveredBut StaysSoundAlways bytes sci_a 0) (without_option (run_b Unsalted)))
    (not_of_other (2 ^ 32 + 1) 1 (client 1) (client 1) (λ same. omega (arith, same)))

-- ---- the key has the same salt at both ends, and another own SSCI: all premises are met, and B delivers what A sent

pub extended_meets : MeetsAll never (shifted Same) bytes ((1 ∷ client 1) ∷ []) ((1 ∷ client 1) ∷ [])
extended_meets = meets_all never (shifted Same) bytes
    (shifts NoPremise Same (record { suite = λ d. refl; salt = λ d xpn. refl }) (λ d. (refl, refl)))
    (one_alone (KeepsSentWith bytes) (without_option (run_a Same)))
    (one_alone (KeepsDeliveredWith bytes sci_a 0) (without_option (run_b Same)))

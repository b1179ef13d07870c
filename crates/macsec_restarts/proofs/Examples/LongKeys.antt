-- Runs under GCM-AES-XPN-256, with a key of 32 octets, up to where it is renewed: A sends a frame, and B delivers it.
use Rattle.macsec_aes.specs.declared.Key.TheVariants.{K256}
use Rattle.macsec_restarts.proofs.Examples.Tags.{small_at, tag_is}
use Rattle.macsec_restarts.proofs.Examples.Told.{begun, good, heard_by, is_strict, IsGood, Kind, on, set_up_told}
use Rattle.macsec_restarts.proofs.Examples.Told.{SetsUp, Told, told_link}
use Rattle.macsec_restarts.proofs.Examples.TwoRunsEach.{is_free, none_is, reads}
use Rattle.macsec_restarts.proofs.Examples.Without.{Premise}
use Rattle.macsec_restarts.proofs.Names.{[], ◌*◌, ◌++◌, ◌<◌, ◌∷◌, ◌≡◌, aad_sent, add_round_key, added_word, aes}
use Rattle.macsec_restarts.proofs.Names.{affine_transformation, after_commands, after_rounds, Ahead, All-append}
use Rattle.macsec_restarts.proofs.Names.{are_small, AreNew, AreOctets, arith, at_row, begins_sound, byte_product}
use Rattle.macsec_restarts.proofs.Names.{cipher_use, CipherUse, client, client_frame, Command, command, commands_sound}
use Rattle.macsec_restarts.proofs.Names.{Contains, Delivery, EndConfig, endpoint_input, false, frame_step, frame_with}
use Rattle.macsec_restarts.proofs.Names.{genuine_at, highest, IfSome, Inputs, installed_key, InstalledKey, inverse}
use Rattle.macsec_restarts.proofs.Names.{is_new, is_within, IsSound, items, iv_of, Judgement, judgement_of, Keeping}
use Rattle.macsec_restarts.proofs.Names.{keeping_step, KeepingInput, kept, Key, key_expansion, key_words, link_frame}
use Rattle.macsec_restarts.proofs.Names.{List, map, may_go, may_send, mix_columns, newly_sent, no_salt, no_tx_counters}
use Rattle.macsec_restarts.proofs.Names.{None, now_durable, open_of, opens, parts_with, Passed, polynomial_product}
use Rattle.macsec_restarts.proofs.Names.{pre_counter_block, raised_alone, receiving_name, refl, remainder, replicate}
use Rattle.macsec_restarts.proofs.Names.{Reservation, rot_word, round_key, row_at, rx_from, RxOn, RxSa, RxSc, s_box}
use Rattle.macsec_restarts.proofs.Names.{salt, Sci, sci_a, sci_b, sealed, sending_name, sent_sound, SentIn, shift_rows}
use Rattle.macsec_restarts.proofs.Names.{small, Some, start, State, state_after_receiving, sub_bytes, sub_word}
use Rattle.macsec_restarts.proofs.Names.{sum_below, sum_of_words, sum_with_stream, tag_of, tag_sent, take, true}
use Rattle.macsec_restarts.proofs.Names.{tx_from, tx_options, TxOn, TxOptions, TxSa, use_opened, use_sent, Uses}
use Rattle.macsec_restarts.proofs.Names.{with_tag, ℕ}
use Rattle.macsec_suite.specs.declared.key_row.NewKey.{NewKey}
use Rattle.macsec_suite.specs.declared.suite.Suite.TheVariants.{Xpn256}
use Rattle.macsec_commands.specs.declared.form.TagForm.TheVariants as form

-- a configuration in which no sent frame carries the SCI
abbrev pub config_of : Sci → EndConfig
config_of sci = record { suite = Xpn256; sci = sci; max_frame = 1518; form = form.Auto }

abbrev pub own_kind : ℕ → Kind
own_kind own = record { suite = Xpn256; salt = no_salt; ssci = own }

-- ---- the key, by the own SSCI

abbrev pub bytes : List ℕ
bytes = replicate 32 7

abbrev pub new_key : ℕ → NewKey
new_key own = record { number = 0; bytes = K256 bytes; salt = no_salt; ssci = own; offset = 0; suite = None }

abbrev pub key_at : ℕ → ℕ → InstalledKey
key_at own unused = record (installed_key Xpn256 no_salt own unused) { bytes = bytes }

abbrev name : List ℕ
name = sending_name (salt false) bytes

abbrev name_r : List ℕ
name_r = receiving_name name sci_a 0

pub free : (name : List ℕ) → highest (reads []) name < 1
free name = is_free [] name 1 none_is (omega arith)

-- ---- the frame, with packet number 1

abbrev pub options : TxOptions
options = tx_options (start (config_of sci_a))

abbrev pub iv : List ℕ
iv = iv_of Xpn256 sci_a 1 no_salt 1

abbrev pub aad : List ℕ
aad = aad_sent options (key_at 1 1) (tx_from 1) (client 1)

abbrev icv : List ℕ
icv = tag_of bytes iv aad

abbrev pub frame_of : List ℕ → List ℕ
frame_of t = frame_with (tag_sent options (tx_from 1) (client 1)) (client 1) (with_tag t)

abbrev pub use_1 : CipherUse
use_1 = cipher_use (key_at 1 1) iv (parts_with (tag_sent options (tx_from 1) (client 1)) (client 1) (with_tag icv))

abbrev pub sent_1 : SentIn
sent_1 = record { seal = use_1; number = 1; frame = client 1 }

opens_1 : open_of bytes iv aad [] (items 16 icv) ≡ Some []
opens_1 = opens bytes iv aad

-- it is octets
block : are_small (aes bytes (pre_counter_block iv)) ≡ true
unfolding sum_with_stream pre_counter_block aes after_rounds add_round_key round_key mix_columns shift_rows sub_bytes
    key_expansion key_words added_word sum_of_words sub_word rot_word
    s_box affine_transformation inverse byte_product remainder polynomial_product sum_below
block = refl

abbrev pub front : List ℕ
front = take 22 (frame_of [])

octets : AreOctets (frame_of icv)
octets = All-append (λ x. x < 256) front (items 16 icv) (small front refl)
    (rw (sealed bytes iv aad) at (tag_is bytes iv aad (small_at _ block)))

-- ---- A sends it

abbrev pub frame_in : KeepingInput
frame_in = endpoint_input (client_frame (client 1))

abbrev pub entry : List ℕ → ℕ → Reservation
entry name last = record { name = name; last = last }

abbrev pub report_in : KeepingInput
report_in = now_durable (entry name 2)

abbrev pub sa_a : List Command
sa_a = TxSa 0 0 1 false ∷ TxOn 0 ∷ []

abbrev tx_state : ℕ → ℕ → State
tx_state unused count = record (start (config_of sci_a)) {
  keys = key_at 1 unused ∷ [];
  tx = row_at unused true ∷ [];
  tx_counters = record no_tx_counters { out_pkts_protected = count; out_octets_protected = 2 * count };
}

abbrev pub k_begun : Keeping
k_begun = kept (salt false) (reads []) [] (start (config_of sci_a))

abbrev pub k_on : Keeping
k_on = kept (salt false) (reads []) [] (tx_state 1 0)

abbrev pub k_reserved : Keeping
k_reserved = kept (salt false) (reads []) (entry name 2 ∷ []) (tx_state 1 0)

abbrev pub k_sent : Keeping
k_sent = kept (salt false) (reads []) (entry name 2 ∷ []) (tx_state 2 1)

seals : use_sent options (key_at 1 1) (row_at 1 true) (client 1) ≡ use_1
seals = rw (sealed bytes iv aad)

pub new_a : AreNew k_begun (Key (new_key 1) ∷ sa_a)
new_a = (refl, (is_new (reads []) name 1 (free name), (refl, tt)))

pub reserves : (keeping_step k_on report_in).1 ≡ k_reserved
reserves = rw (raised_alone name 2)

goes : may_go k_reserved (client_frame (client 1)) ≡ true
goes = may_send k_reserved (client 1) 1 refl (is_within (reads []) name 1 2 (free name) (omega arith))

pub sends : (keeping_step k_reserved frame_in).1 ≡ k_sent
sends = frame_step k_reserved (client 1) goes

pub lists : newly_sent k_reserved frame_in ≡ sent_1 ∷ []
lists = rw (goes, seals)

pub begun_a_sound : IsSound (start (config_of sci_a))
begun_a_sound = begins_sound (config_of sci_a) refl

pub on_1_sound : IsSound (tx_state 1 0)
on_1_sound = commands_sound (Key (new_key 1) ∷ sa_a) refl refl begun_a_sound

pub sent_1_sound : IsSound (tx_state 2 1)
sent_1_sound = sent_sound (client 1) refl refl on_1_sound

pub sets_up_a : SetsUp (own_kind 1) (config_of sci_a) (new_key 1) sa_a
sets_up_a = record { fits = refl; none = refl; fit = λ long. refl; keep = refl; keys = refl }

-- ---- B delivers it

abbrev pub b_at : State → Keeping
b_at s = kept (salt false) (reads []) [] s

abbrev pub start_b : State
start_b = start (config_of sci_b)

abbrev sa_b : List Command
sa_b = RxSc sci_a ∷ RxSa sci_a 0 0 1 1 ∷ RxOn sci_a 0 ∷ []

abbrev ready : State
ready = after_commands start_b (Key (new_key 2) ∷ sa_b)

abbrev pub commands : Inputs
commands = map command (Key (new_key 2) ∷ sa_b)

abbrev frame_1 : List ℕ
frame_1 = frame_of icv

abbrev pub link : KeepingInput
link = endpoint_input (link_frame frame_1)

abbrev pub accepts : Judgement
accepts = at_row (rx_from 1) 1 13 Passed (Some (client 1))

judged : judgement_of ready frame_1 ≡ accepts
judged = rw opens_1

abbrev pub heard : State
heard = state_after_receiving ready frame_1 accepts

abbrev pub delivery : Delivery
delivery = record { bytes = bytes; sci = sci_a; an = 0; number = 1; frame = client 1 }

genuine : (uses : Uses) → Contains uses use_1 → IfSome (use_opened ready frame_1) (Contains uses)
genuine uses there = genuine_at ready frame_1 accepts uses judged there

begun_b_sound : IsSound start_b
begun_b_sound = begins_sound (config_of sci_b) refl

sets_up_b : SetsUp (own_kind 2) (config_of sci_b) (new_key 2) sa_b
sets_up_b = record { fits = refl; none = refl; fit = λ long. refl; keep = refl; keys = refl }

new_b : AreNew (b_at start_b) (Key (new_key 2) ∷ sa_b)
new_b = (refl, (refl, (is_new (reads []) name_r 1 (free name_r), (refl, tt))))

ready_sound : IsSound ready
ready_sound = commands_sound (Key (new_key 2) ∷ sa_b) refl refl begun_b_sound

pub heard_sound : IsSound heard
heard_sound = heard_by frame_1 refl judged refl ready_sound

ready_good : IsGood (own_kind 2) ready
ready_good = good (own_kind 2) 1 refl (λ long. ready_sound)

pub heard_good : IsGood (own_kind 2) heard
heard_good = good (own_kind 2) 1 refl (λ long. heard_sound)

pub b_first : {left_out : Premise} {uses : Uses} {inputs : Inputs} {ds : List Delivery} {last : Ahead} →
    Contains uses use_1 → Told (own_kind 2) left_out uses (on (b_at heard)) inputs [] ds last →
    Told (own_kind 2) left_out uses (begun (b_at start_b)) (commands ++ (link ∷ inputs)) [] (delivery ∷ ds) last
b_first {uses} there rest =
    set_up_told (config_of sci_b) (new_key 2) sa_b (salt false) (reads []) sets_up_b begun_b_sound new_b
    (told_link accepts refl judged ready_good (is_strict refl refl refl) octets (λ d. genuine uses there) rest)

-- An endpoint that sends one frame for integrity only: its commands, the report that its packet number is reserved, and
-- its states. The cipher is not computed.
use Rattle.macsec_commands.specs.declared.command.Command.{Command}
use Rattle.macsec_counterexamples.proofs.{
  Names.{[], ◌++◌, ◌+◌, ◌<◌, ◌∙◌, ◌∷◌, ◌≡◌, ap, arith, Bool, CipherUse, client_frame, EndConfig, endpoint_input, false},
  Names.{highest, InstalledKey, IsSound, Keeping, KeepingInput, Key, List, map, may_go, NewKey, no_tx_counters},
  Names.{now_durable, number_used, refl, replicate, Reservation, sealed, sending_name, start, State, step, Suite, true},
  Names.{tx_options, TxOn, TxRow, TxSa, use_sent, ℕ},
  Link.WorkedEnds.{bytes, gcm_a, installed_key, new_key, no_salt, xpn_a, xpn_b, client},
  Restarts.{
    Goes.{Goes, command, commands_go, ended, frame_seals, frame_step, is_new, is_within, may_send, next_goes},
    Goes.raised_alone,
    Tables.{after_commands, begins_sound, begins_well, all_fit, commands_sound, none_refused, sent_sound, tables_fit},
  },
}

-- in this order: with 32-bit packet numbers; with extended ones and a salt of zeros; with another salt; with the salt
-- under which the IV reads as one of 32-bit packet numbers. The last three are at the other end: with the same own
-- SSCI;
-- with another SSCI and the salt under which the IV reads so; with another SSCI and the salt under which the IV is the
-- same
pub data Sender : Type 0 where
  Short : Sender
  Extended : Sender
  OtherSalt : Sender
  ReadSalt : Sender
  AtB : Sender
  AtBReads : Sender
  AtBSalted : Sender

abbrev pub config_of : Sender → EndConfig
config_of Short = gcm_a
config_of AtB = xpn_b
config_of AtBReads = xpn_b
config_of AtBSalted = xpn_b
config_of w = xpn_a

abbrev pub suite_of : Sender → Suite
suite_of w = (config_of w).suite

abbrev pub key_salt : Sender → List ℕ
key_salt OtherSalt = replicate 11 0 ++ 3 ∷ []
key_salt ReadSalt = 2 ∷ 0 ∷ 0 ∷ 1 ∷ 0 ∷ 1 ∷ 0 ∷ 1 ∷ 0 ∷ 0 ∷ 0 ∷ 3 ∷ []
key_salt AtBReads = 2 ∷ 0 ∷ 0 ∷ 2 ∷ 0 ∷ 1 ∷ 0 ∷ 1 ∷ 0 ∷ 0 ∷ 0 ∷ 0 ∷ []
key_salt AtBSalted = 0 ∷ 0 ∷ 0 ∷ 3 ∷ replicate 8 0
key_salt w = no_salt

-- the own SSCI
abbrev pub ssci_of : Sender → ℕ
ssci_of AtBReads = 2
ssci_of AtBSalted = 2
ssci_of w = 1

-- the packet number that it uses
abbrev pub number_of : Sender → ℕ
number_of OtherSalt = 2
number_of ReadSalt = 2
number_of w = 1

abbrev pub key_of : Sender → NewKey
key_of w = new_key (key_salt w) (ssci_of w)

abbrev pub reserves : Sender → List ℕ → Reservation
reserves w salt = record { name = sending_name salt bytes; last = number_of w }

abbrev pub commands : Sender → List Command
commands w = Key (key_of w) ∷ TxSa 0 0 (number_of w) false ∷ TxOn 0 ∷ []

abbrev pub inputs : Sender → List ℕ → List KeepingInput
inputs w salt = map command (commands w) ++ now_durable (reserves w salt) ∷ endpoint_input (client_frame client) ∷ []

-- ---- its states

abbrev pub key_at : Sender → ℕ → InstalledKey
key_at w first_unused = installed_key (suite_of w) (key_salt w) (ssci_of w) first_unused

abbrev pub row_at : ℕ → Bool → TxRow
row_at next on = record { an = 0; key = 0; next = next; conf = false; on = on }

abbrev sending : Sender → State
sending w = after_commands (start (config_of w)) (commands w)

abbrev pub at_end : Sender → State
at_end w = record (start (config_of w)) {
  keys = key_at w (number_of w + 1) ∷ [];
  tx = row_at (number_of w + 1) true ∷ [];
  tx_counters = record no_tx_counters { out_pkts_protected = 1; out_octets_protected = 2 };
}

-- what it seals
abbrev pub use_of : Sender → CipherUse
use_of w = use_sent (tx_options (sending w)) (key_at w 1) (row_at (number_of w) true) client

-- ---- what computes of each of them

record Facts (w : Sender) : Type 0 where
  begins : begins_well (config_of w) ≡ true
  carried : none_refused (start (config_of w)) (commands w) ≡ true
  fit : all_fit (start (config_of w)) (commands w) ≡ true
  uses : number_used (sending w) (client_frame client) ≡ (0, number_of w) ∷ []
  sends : (step (sending w) (client_frame client)).1 ≡ at_end w
  seals : sealed (sending w) (client_frame client) ≡ use_of w ∷ []
  fits : tables_fit (at_end w) ≡ true

facts : (w : Sender) → Facts w
facts Short = record { begins = refl; carried = refl; fit = refl; uses = refl; sends = refl; seals = refl; fits = refl }
facts it = record { begins = refl; carried = refl; fit = refl; uses = refl; sends = refl; seals = refl; fits = refl }

-- ---- its steps, with any journal that has not reserved the packet number

abbrev pub kept : List ℕ → List Reservation → List Reservation → State → Keeping
kept salt before granted s =
    record { secy = s; keeps = true; salt = salt; before = before; granted = granted; given_up = [] }

pub goes : (salt : List ℕ) (before : List Reservation) (w : Sender) →
    highest before (sending_name salt bytes) < number_of w →
    Goes (kept salt before [] (start (config_of w))) (inputs w salt) (use_of w ∷ [])
    (kept salt before (reserves w salt ∷ []) (at_end w))
goes salt before w free =
    let f = facts _ in
    let name = sending_name salt bytes in
    let n = number_of w in
    let k = kept salt before (reserves w salt ∷ []) (sending w) in
    let first : IsSound (start (config_of w)) = begins_sound _ f.begins in
    let ready : IsSound (sending w) = commands_sound (commands w) f.carried f.fit first in
    let may : may_go k (client_frame client) ≡ true =
    may_send k client n f.uses (is_within before name n n free (omega arith)) in
    commands_go (commands w) (refl, (is_new before name n free, (refl, tt))) f.carried f.fit first
    (next_goes ready refl (ap (λ (r : Reservation). kept salt before (r ∷ []) (sending w)) (raised_alone name n))
    (next_goes ready (frame_seals k client may ∙ f.seals)
    (frame_step k client may ∙ ap (kept salt before (reserves w salt ∷ [])) f.sends)
    (ended _ (sent_sound client f.sends f.fits ready))))

-- An endpoint is sound if it is sound with the octets of some keys replaced.
use Rattle.std.proofs.Common.{IfSome}
use Rattle.macsec_suite.specs.{
  KeyRows.is_extended,
  Refusals.install_refusals,
  Suites.{widest_extended_window, widest_short_window},
}
use Rattle.macsec_tx.specs.Transmit.{tx_row}
use Rattle.macsec_secy.proofs.OtherOctets.{widest-alike}
use Rattle.macsec_reserve.proofs.{
  Prelude.{[], ◌++◌, ◌<◌, ◌==◌, ◌^◌, ◌∙◌, ◌∷◌, ◌≡◌, ◌≤◌, Agrees, alike, All-weaker, AreKeyRows, at_number, Bool},
  Prelude.{client_frame, Command, effect, eqb-true, false, frame_fault, FrameFault, if◌then◌else◌, Input, InstalledKey},
  Prelude.{is_some, IsSome, IsSound, judgement_of, Key, key_length, key_row, keys_after, leaves, length, link_frame},
  Prelude.{List, list_any, max_key_count, new_row, None, none_hold, operator_command, Option, option_map, Output},
  Prelude.{received_output, refl, Refusal, refusal, Retire, retired_row, row-map, row_noting, RxRow, same_number},
  Prelude.{sending_of, sent_output, Some, State, state_after_receiving, state_after_sending, step, subst, suite_of},
  Prelude.{sym, true, true_from_not, TxRow, uncontrolled_frame, unless_fault, unless_refused, with_bytes, with_key, ℕ},
  Replaced.{Replacement, replaced, replaced_keys},
}

-- ---- each key has as many octets as its suite requires

abbrev pub HasLength : InstalledKey → Type 0
HasLength row = length row.bytes ≡ key_length row.suite

abbrev pub HaveLengths : List InstalledKey → Type 0
HaveLengths [] = Unit {0}
HaveLengths (row ∷ rows) = HasLength row × HaveLengths rows

lengths_changed : (change : InstalledKey → InstalledKey) → ((row : InstalledKey) → HasLength row → HasLength (change row)) → (n : ℕ) (keys : List InstalledKey) → HaveLengths keys →
    HaveLengths (with_key change n keys)
lengths_changed change keeps n [] have = tt
lengths_changed change keeps n (row ∷ rows) have = (by_test (row.number == n), lengths_changed change keeps n rows have.1)
  where
    by_test : (b : Bool) → HasLength (if b then change row else row)
    by_test true = keeps row have.0
    by_test false = have.0

lengths_with : (keys : List InstalledKey) (new : InstalledKey) → HaveLengths keys → HasLength new → HaveLengths (keys ++ new ∷ [])
lengths_with [] new have own = (own, tt)
lengths_with (row ∷ rows) new have own = (have.0, lengths_with rows new have.1 own)

effect_lengths : (s : State) (c : Command) → refusal s c ≡ None → HaveLengths s.keys → HaveLengths (effect s c).keys
effect_lengths s (Key key) fits have =
    let suite = suite_of s.config.suite key in
    let new : InstalledKey = new_row suite key in
    let none = none_hold (install_refusals suite s.options.window s.keys key) fits in
    lengths_with s.keys new have (eqb-true (length new.bytes) (key_length suite) (true_from_not (length new.bytes == key_length suite) none.0))
effect_lengths s (Retire n) fits have = lengths_changed retired_row (λ row own. own) n s.keys have
effect_lengths s c fits have = have

command_lengths : (s : State) (c : Command) (r : Option Refusal) → refusal s c ≡ r → HaveLengths s.keys → HaveLengths (unless_refused r s c).keys
command_lengths s c None is have = effect_lengths s c is have
command_lengths s c (Some r) is have = have

sending_lengths : (keys : List InstalledKey) (by : Option TxRow) → HaveLengths keys → HaveLengths (keys_after keys by)
sending_lengths keys None have = have
sending_lengths keys (Some row) have = lengths_changed (row_noting row.next) (λ key own. own) row.key keys have

frame_lengths : (s after : State) (output : Output) (f : Option FrameFault) → HaveLengths s.keys → HaveLengths after.keys → HaveLengths (unless_fault f s (output, after)).1.keys
frame_lengths s after output None now then' = then'
frame_lengths s after output (Some f) now then' = now

pub step_lengths : (s : State) (input : Input) → HaveLengths s.keys → HaveLengths (step s input).1.keys
step_lengths s (operator_command c) have = command_lengths s c (refusal s c) refl have
step_lengths s (client_frame frame) have =
    frame_lengths s (state_after_sending s frame (sending_of s frame)) (sent_output frame (sending_of s frame).leaving) (frame_fault frame) have (sending_lengths s.keys (sending_of s frame).by have)
step_lengths s (uncontrolled_frame frame) have = frame_lengths s s (leaves frame None) (frame_fault frame) have have
step_lengths s (link_frame frame) have =
    frame_lengths s (state_after_receiving s frame (judgement_of s frame)) (received_output frame (judgement_of s frame)) (frame_fault frame) have have

-- ---- the other bounds of a row, and the numbers

record IsRowOtherwise (row : InstalledKey) : Type 0 where
  number : row.number < max_key_count
  salt : length row.salt ≡ 12
  ssci : row.ssci < 2 ^ 32
  first_unused_least : 1 ≤ row.first_unused
  first_unused : row.first_unused ≤ 2 ^ 64

abbrev AreRowsOtherwise : List InstalledKey → Type 0
AreRowsOtherwise [] = Unit {0}
AreRowsOtherwise (row ∷ rows) = IsRowOtherwise row × (key_row rows row.number ≡ None) × AreRowsOtherwise rows

otherwise : (keys : List InstalledKey) → AreKeyRows keys → AreRowsOtherwise keys
otherwise [] are = tt
otherwise (row ∷ rows) are = (
  record { number = are.0.number; salt = are.0.salt; ssci = are.0.ssci; first_unused_least = are.0.first_unused_least; first_unused = are.0.first_unused },
  are.1,
  otherwise rows are.2,
)

with_lengths : (keys : List InstalledKey) → AreRowsOtherwise keys → HaveLengths keys → AreKeyRows keys
with_lengths [] are have = tt
with_lengths (row ∷ rows) are have = (
  record { number = are.0.number; bytes = have.0; salt = are.0.salt; ssci = are.0.ssci; first_unused_least = are.0.first_unused_least; first_unused = are.0.first_unused },
  are.1,
  with_lengths rows are.2 have.1,
)

none_before : (f : InstalledKey → InstalledKey) (o : Option InstalledKey) → option_map f o ≡ None → o ≡ None
none_before f None none = refl
none_before f (Some row) none = cc

before_one : (n : ℕ) (bytes : List ℕ) (keys : List InstalledKey) → AreRowsOtherwise (with_key (with_bytes bytes) n keys) → AreRowsOtherwise keys
before_one n bytes [] are = tt
before_one n bytes (row ∷ rows) are = (
  by_test (row.number == n) are.0,
  none_before (at_number (with_bytes bytes) n) (key_row rows row.number)
      (sym (row-map (at_number (with_bytes bytes) n) (same_number (with_bytes bytes) (λ key. refl) n) rows row.number)
      ∙ subst (λ m. key_row (with_key (with_bytes bytes) n rows) m ≡ None) (same_number (with_bytes bytes) (λ key. refl) n row) are.1),
  before_one n bytes rows are.2,
)
  where
    by_test : (b : Bool) → IsRowOtherwise (if b then with_bytes bytes row else row) → IsRowOtherwise row
    by_test true is =
        record { number = is.number; salt = is.salt; ssci = is.ssci; first_unused_least = is.first_unused_least; first_unused = is.first_unused }
    by_test false is = is

before_all : (rs : List Replacement) (keys : List InstalledKey) → AreRowsOtherwise (replaced_keys rs keys) → AreRowsOtherwise keys
before_all [] keys are = are
before_all (r ∷ rs) keys are = before_all rs keys (before_one r.0 r.1 (replaced_keys rs keys) are)

-- ---- what else depends on the keys

there_replaced : (rs : List Replacement) (keys : List InstalledKey) (n : ℕ) → is_some (key_row (replaced_keys rs keys) n) ≡ is_some (key_row keys n)
there_replaced [] keys n = refl
there_replaced (r ∷ rs) keys n = alike (λ (o : Option InstalledKey). is_some o) (replaced_keys rs keys) r.0 r.1 n (λ row. refl) ∙ there_replaced rs keys n

extended_replaced : (rs : List Replacement) (keys : List InstalledKey) → list_any is_extended (replaced_keys rs keys) ≡ list_any is_extended keys
extended_replaced [] keys = refl
extended_replaced (r ∷ rs) keys = widest-alike (replaced_keys rs keys) r.0 r.1 ∙ extended_replaced rs keys

tx_there : (rs : List Replacement) (keys : List InstalledKey) (o : Option TxRow) → IfSome o (λ row. IsSome (key_row (replaced_keys rs keys) row.key)) → IfSome o (λ row. IsSome (key_row keys row.key))
tx_there rs keys None there = there
tx_there rs keys (Some row) there = sym (there_replaced rs keys row.key) ∙ there

pub sound_beside : (rs : List Replacement) (s : State) → IsSound (replaced rs s) → HaveLengths s.keys → Agrees s → IsSound s
sound_beside rs s sound have agrees = record {
  max_frame_least = sound.max_frame_least;
  max_frame_most = sound.max_frame_most;
  own_sci = sound.own_sci;
  keys = with_lengths s.keys (before_all rs s.keys (otherwise (replaced_keys rs s.keys) sound.keys)) have;
  tx = sound.tx;
  rx = sound.rx;
  window = subst (λ (b : Bool). s.options.window ≤ (if b then widest_extended_window else widest_short_window)) (extended_replaced rs s.keys) sound.window;
  tx_keys = λ an. tx_there rs s.keys (tx_row s.tx an) (sound.tx_keys an);
  rx_keys = All-weaker (λ (row : RxRow). IsSome (key_row (replaced_keys rs s.keys) row.key)) (λ (row : RxRow). IsSome (key_row s.keys row.key))
      (λ row there. sym (there_replaced rs s.keys row.key) ∙ there) s.rx.rows sound.rx_keys;
  channels = sound.channels;
  counters = sound.counters;
  tx_counters = sound.tx_counters;
  rx_counters = sound.rx_counters;
  associations = sound.associations;
  agrees = agrees;
}

-- The rows of an endpoint's tables agree with one another from its creation on, whatever the input.
use Rattle.macsec_secy.proofs.{
  Names.{[], ◌≡◌, ◌⊎◌, Agrees, All-filter, All-nil, Bool, client_frame, Command, effect, EndConfig, false, filter},
  Names.{frame_fault, FrameFault, HasOtherSsci, Input, is_at, Judgement, judgement_of, Key, leaves, link_frame, List},
  Names.{new_row, None, not, operator_command, Option, Output, Protect, received_output, refl, Refusal, refusal},
  Names.{refusals, Replay, Retire, row_on, RxDel, RxLow, RxOff, RxOn, RxRow, RxSa, RxSc, RxScDel, same_sci, Sending},
  Names.{sending_of, sent_output, Some, start, State, state_after_receiving, state_after_sending, step, suite_of, Tag},
  Names.{true, tx_options, TxDel, TxOff, TxOn, TxSa, uncontrolled_frame, unless_fault, unless_refused, Validate, ℕ},
  AfterCommands.{effect_keeps, none_hold},
  NoTwo.{none-filter, none-with},
  RxRowsAgree.IsWithin,
  UnusedNext.after_frame,
  UsedNumbers.sent_by,
}
use Rattle.macsec_secy.proofs.KeyBytes as bytes
use Rattle.macsec_secy.proofs.OtherSscis as sscis
use Rattle.macsec_secy.proofs.RxRowsAgree as rx
use Rattle.macsec_secy.proofs.TxRowsAgree as tx

pub at_start : (config : EndConfig) → Agrees (start config)
at_start config = record {
  key_bytes = tt;
  unused_next = tt;
  tx_numbers = tt;
  one_on = tt;
  other_scis = refl;
  rx_places = tt;
  other_sscis = All-nil (HasOtherSsci []);
  within_window = All-nil (IsWithin 0);
}

-- ---- commands

-- the clauses about transmit SAs only, and those about receive SAs only
tx_part : (s : State) → Agrees s → tx.TxRowsAgree s.tx
tx_part s agrees = record { numbers = agrees.tx_numbers; one_on = agrees.one_on }

rx_part : (s : State) → Agrees s → rx.RxRowsAgree s.options.window s.rx.rows
rx_part s agrees = record { places = agrees.rx_places; within = agrees.within_window }

-- the clauses about receive SAs, when some of them are deleted
some_left : (s : State) (keep : RxRow → Bool) → Agrees s → rx.RxRowsAgree s.options.window (filter keep s.rx.rows) × sscis.HaveOtherSscis s.keys (filter keep s.rx.rows)
some_left s keep agrees = (
  rx.some_left keep s.options.window s.rx.rows (rx_part s agrees),
  All-filter keep (HasOtherSsci s.keys) s.rx.rows agrees.other_sscis,
)

pub after_effect : (s : State) (c : Command) → refusal s c ≡ None → Agrees s → Agrees (effect s c)
after_effect s (Protect on) e agrees = assumption
after_effect s (Validate mode) e agrees = assumption
after_effect s (Replay protect window) e agrees =
    let rows = rx.with_all_narrowed s.rx s.options.window window (rx_part s agrees) in
    assumption (rows, sscis.with_all_narrowed s.keys s.rx window agrees.other_sscis)
after_effect s (Tag form) e agrees = assumption
after_effect s (Key key) e agrees =
    assumption (
      bytes.with_another_key (suite_of s.config.suite key) s.options.window s.keys key e agrees.key_bytes,
      effect_keeps s (Key key) e agrees.unused_next,
      sscis.with_another_key s.keys s.rx.rows (new_row (suite_of s.config.suite key) key) agrees.other_sscis,
    )
after_effect s (Retire key) e agrees =
    assumption (
      bytes.with_a_key_retired s.keys key agrees.key_bytes,
      effect_keeps s (Retire key) e agrees.unused_next,
      sscis.with_a_key_retired s.keys s.rx.rows key agrees.other_sscis,
    )
after_effect s (TxSa an key next conf) e agrees =
    let rows = tx.with_one_more s.keys s.tx an key next conf e (tx_part s agrees) in
    assumption (rows, effect_keeps s (TxSa an key next conf) e agrees.unused_next)
after_effect s (TxOn an) e agrees =
    let rows = tx.with_one_on s.tx an (tx_part s agrees) in
    assumption (rows, effect_keeps s (TxOn an) e agrees.unused_next)
after_effect s (TxOff an) e agrees =
    let rows = tx.with_one_off s.tx an (tx_part s agrees) in
    assumption (rows, effect_keeps s (TxOff an) e agrees.unused_next)
after_effect s (TxDel an) e agrees =
    let rows = tx.without_one s.tx an (tx_part s agrees) in
    assumption (rows, effect_keeps s (TxDel an) e agrees.unused_next)
after_effect s (RxSc sci) e agrees =
    let none = none_hold (refusals s (RxSc sci)) e in
    assumption (none-with (λ t. same_sci t s.config.sci) s.rx.scis sci agrees.other_scis none.0)
after_effect s (RxScDel sci) e agrees =
    let left = some_left s (λ row. not (same_sci row.sci sci)) agrees in
    assumption (left, none-filter (λ t. same_sci t s.config.sci) (λ t. not (same_sci t sci)) s.rx.scis agrees.other_scis)
after_effect s (RxSa sci an key ssci lowest) e agrees =
    let rows = rx.with_one_more s.keys s.rx s.options.window sci an key ssci lowest e (rx_part s agrees) in
    assumption (rows, sscis.with_one_more s.keys s.rx sci an key ssci lowest e agrees.other_sscis)
after_effect s (RxOn sci an) e agrees =
    let rows = rx.with_one_switched s.rx s.options.window sci an true (rx_part s agrees) in
    assumption (rows, sscis.with_one_switched s.keys s.rx sci an true agrees.other_sscis)
after_effect s (RxOff sci an) e agrees =
    let rows = rx.with_one_switched s.rx s.options.window sci an false (rx_part s agrees) in
    assumption (rows, sscis.with_one_switched s.keys s.rx sci an false agrees.other_sscis)
after_effect s (RxLow sci an pn) e agrees =
    let rows = rx.with_one_raised s.keys s.rx s.options.window sci an pn e (rx_part s agrees) in
    assumption (rows, sscis.with_one_raised s.keys s.rx sci an pn agrees.other_sscis)
after_effect s (RxDel sci an) e agrees =
    let left = some_left s (λ row. not (is_at sci an row)) agrees in
    assumption (left)

-- ---- frames

after_sending : (s : State) (frame : List ℕ) (sent : Sending) → (sent.by ≡ None) ⊎ (sent.by ≡ row_on s.tx) → Agrees s → Agrees (state_after_sending s frame sent)
after_sending s frame sent by agrees =
    let rows = tx.after_sending s.tx sent.by (tx_part s agrees) in
    assumption (
      rows,
      bytes.after_sending s.keys sent.by agrees.key_bytes,
      after_frame s.keys s.tx sent.by by agrees.unused_next,
      sscis.after_sending s.keys s.rx.rows sent.by agrees.other_sscis,
    )

after_receiving : (s : State) (frame : List ℕ) (j : Judgement) → Agrees s → Agrees (state_after_receiving s frame j)
after_receiving s frame j agrees =
    let rows = rx.after_receiving s.options.window j s.rx.rows (rx_part s agrees) in
    assumption (rows, sscis.after_receiving s.keys s.options.window j s.rx.rows agrees.other_sscis)

-- ---- every input

after_command : (s : State) (c : Command) (r : Option Refusal) → refusal s c ≡ r → Agrees s → Agrees (unless_refused r s c)
after_command s c None e agrees = after_effect s c e agrees
after_command s c (Some r) e agrees = agrees

-- a frame, with or without a fault
frame_keeps : (s after : State) (output : Output) (fault : Option FrameFault) → Agrees after → Agrees s → Agrees (unless_fault fault s (output, after)).1
frame_keeps s after output None then agrees = then
frame_keeps s after output (Some fault) then agrees = agrees

pub after_step : (s : State) (input : Input) → Agrees s → Agrees (step s input).1
after_step s (operator_command c) agrees = after_command s c (refusal s c) refl agrees
after_step s (client_frame frame) agrees =
    let sent = sending_of s frame in
    frame_keeps s (state_after_sending s frame sent) (sent_output frame sent.leaving) (frame_fault frame)
    (after_sending s frame sent (sent_by (tx_options s) s.keys s.tx frame) agrees) agrees
after_step s (uncontrolled_frame frame) agrees = frame_keeps s s (leaves frame None) (frame_fault frame) agrees agrees
after_step s (link_frame frame) agrees =
    let j = judgement_of s frame in
    frame_keeps s (state_after_receiving s frame j) (received_output frame j) (frame_fault frame) (after_receiving s frame j agrees) agrees

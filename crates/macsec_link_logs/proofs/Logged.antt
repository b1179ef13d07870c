-- The live logs of an end belong to its receive SAs, whatever the input.
use Rattle.std.proofs.{
  Common.{◌≡◌, ℕ, Bool, true, false, cond, List, [], ◌∷◌, ◌++◌, map, filter, refl, ap, sym, subst, ◌∙◌, ◌==◌, ◌&&◌},
  Common.{not, if◌then◌else◌, option_map, Option, Some, None},
  lemmas.List.{map-append, Elements.filter-append},
}
use Rattle.macsec_tag.specs.declared.identifiers.Sci.{Sci}
use Rattle.macsec_suite.specs.declared.refusal.Refusal.{Refusal}
use Rattle.macsec_commands.specs.declared.command.Command.{
  Command,
  TheVariants.{Protect, Validate, Replay, Tag, Key, Retire, TxSa, TxOn, TxOff, TxDel, RxSc, RxScDel, RxSa, RxOn, RxOff},
  TheVariants.{RxLow, RxDel},
}
use Rattle.macsec_rx.specs.{
  Channels.{at_place, is_at, same_sci},
  Commands.{row_narrowed, row_raised, row_switched},
  Judge.{accepted_number, place_of, row_accepting, rows_accepting, rows_after},
  declared.{RxRow.RxRow, Verdict.Verdict},
}
use Rattle.macsec_secy.specs.{
  Commands.{effect, refusal, unless_refused},
  Reception.{judgement_of, state_after_receiving},
  State.State,
  Step.{Input, operator_command, client_frame, link_frame, uncontrolled_frame, Output, command_output, leaves},
  Step.{received, frame_fault, received_output, sending_of, sent_output, state_after_sending, step, unless_fault},
  declared.fault.FrameFault.FrameFault,
}
use Rattle.macsec_link_logs.specs.{
  Answers.EndHappens,
  Ends.{EndState, end_after},
  Logs.{AreLogged, DeliveryLog, association_of_log, association_of_row, delivered_after, is_live_at, live_logs},
  Logs.{log_closing, log_delivering, logs_after_command, with_first},
  Sound.IsSoundEnd,
}
use Rattle.macsec_secy.specs.Sound as endpoint

abbrev Association : Type 0
Association = Sci × ℕ × ℕ

-- ---- changes of SAs

abbrev KeepsAssociation : (RxRow → RxRow) → Type 0
KeepsAssociation f = (row : RxRow) → association_of_row (f row) ≡ association_of_row row

rows_same : (f : RxRow → RxRow) → KeepsAssociation f → (rows : List RxRow) → map association_of_row (map f rows) ≡ map association_of_row rows
rows_same f keeps [] = refl
rows_same f keeps (row ∷ rows) = ap (λ x. x ∷ map association_of_row (map f rows)) (keeps row) ∙ ap (λ xs. association_of_row row ∷ xs) (rows_same f keeps rows)

at_one_place : (f : RxRow → RxRow) → KeepsAssociation f → (sci : Sci) (an : ℕ) → KeepsAssociation (at_place f sci an)
at_one_place f keeps sci an row = by_test (is_at sci an row)
  where
    by_test : (b : Bool) → association_of_row (if b then f row else row) ≡ association_of_row row
    by_test true = keeps row
    by_test false = refl

rows_changed : (f : RxRow → RxRow) → KeepsAssociation f → (rows : List RxRow) (logs : List DeliveryLog) → AreLogged rows logs → AreLogged (map f rows) logs
rows_changed f keeps rows logs logged = logged ∙ sym (rows_same f keeps rows)

-- ---- SAs are deleted, and logs are closed

rows_left : (gone : Association → Bool) (rows : List RxRow) →
    map association_of_row (filter (λ row. not (gone (association_of_row row))) rows) ≡ filter (λ x. not (gone x)) (map association_of_row rows)
rows_left gone [] = refl
rows_left gone (row ∷ rows) = by_test (gone (association_of_row row)) (rows_left gone rows)
  where
    by_test : (b : Bool) → map association_of_row (filter (λ r. not (gone (association_of_row r))) rows) ≡ filter (λ x. not (gone x)) (map association_of_row rows) →
        map association_of_row (cond (not b) (row ∷ filter (λ r. not (gone (association_of_row r))) rows) (filter (λ r. not (gone (association_of_row r))) rows)) ≡
        cond (not b) (association_of_row row ∷ filter (λ x. not (gone x)) (map association_of_row rows)) (filter (λ x. not (gone x)) (map association_of_row rows))
    by_test true rest = rest
    by_test false rest = ap (λ xs. association_of_row row ∷ xs) rest

module _ (gone : Association → Bool) (test : DeliveryLog → Bool) (same : (log : DeliveryLog) → log.live ≡ true → test log ≡ gone (association_of_log log)) where
  abbrev stays : Association → Bool
  stays x = not (gone x)

  abbrev left_of : List DeliveryLog → List Association
  left_of logs = map association_of_log (live_logs (map (log_closing test) logs))

  abbrev before_of : List DeliveryLog → List Association
  before_of logs = map association_of_log (live_logs logs)

  logs_left : (logs : List DeliveryLog) → map association_of_log (live_logs (map (log_closing test) logs)) ≡ filter stays (map association_of_log (live_logs logs))
  logs_left [] = refl
  logs_left (log ∷ logs) = by_test (test log) refl (logs_left logs)
    where
      closed : left_of logs ≡ filter stays (before_of logs) → test log ≡ true → (live : Bool) → log.live ≡ live →
          left_of logs ≡ filter stays (map association_of_log (cond live (log ∷ live_logs logs) (live_logs logs)))
      closed rest is true live =
          let others = filter stays (before_of logs) in
          rest ∙ sym (ap (λ b. cond (not b) (association_of_log log ∷ others) others) (sym (same log live) ∙ is))
      closed rest is false live = rest

      kept : left_of logs ≡ filter stays (before_of logs) → test log ≡ false → (live : Bool) → log.live ≡ live →
          let left = live_logs (map (log_closing test) logs) in
          map association_of_log (cond live (log ∷ left) left) ≡ filter stays (map association_of_log (cond live (log ∷ live_logs logs) (live_logs logs)))
      kept rest is true live =
          let others = filter stays (before_of logs) in
          ap (λ xs. association_of_log log ∷ xs) rest ∙ sym (ap (λ b. cond (not b) (association_of_log log ∷ others) others) (sym (same log live) ∙ is))
      kept rest is false live = rest

      by_test : (b : Bool) → test log ≡ b → left_of logs ≡ filter stays (before_of logs) →
          let first = if b then record log { live = false } else log in
          map association_of_log (live_logs (first ∷ map (log_closing test) logs)) ≡ filter stays (map association_of_log (live_logs (log ∷ logs)))
      by_test true is rest = closed rest is log.live refl
      by_test false is rest = kept rest is log.live refl

  closed_with : (rows : List RxRow) (logs : List DeliveryLog) → AreLogged rows logs →
      AreLogged (filter (λ row. not (gone (association_of_row row))) rows) (map (log_closing test) logs)
  closed_with rows logs logged = logs_left logs ∙ ap (filter stays) logged ∙ sym (rows_left gone rows)

-- ---- commands

one_more : (rows : List RxRow) (logs : List DeliveryLog) (r : RxRow) (log : DeliveryLog) → log.live ≡ true → association_of_log log ≡ association_of_row r → AreLogged rows logs →
    AreLogged (rows ++ r ∷ []) (logs ++ log ∷ [])
one_more rows logs r log live same logged =
    ap (map association_of_log) (filter-append (λ l. l.live) logs (log ∷ []) ∙ ap (λ b. live_logs logs ++ cond b (log ∷ []) []) live)
    ∙ map-append association_of_log (live_logs logs) (log ∷ [])
    ∙ ap (λ xs. xs ++ association_of_log log ∷ []) logged
    ∙ ap (λ x. map association_of_row rows ++ x ∷ []) same
    ∙ sym (map-append association_of_row rows (r ∷ []))

effect_logged : (s : State) (c : Command) (logs : List DeliveryLog) → AreLogged s.rx.rows logs → AreLogged (effect s c).rx.rows (logs_after_command c logs)
effect_logged s (Protect on) logs logged = logged
effect_logged s (Validate mode) logs logged = logged
effect_logged s (Replay protect window) logs logged = rows_changed (row_narrowed window) (λ row. refl) s.rx.rows logs logged
effect_logged s (Tag form) logs logged = logged
effect_logged s (Key key) logs logged = logged
effect_logged s (Retire key) logs logged = logged
effect_logged s (TxSa an key next conf) logs logged = logged
effect_logged s (TxOn an) logs logged = logged
effect_logged s (TxOff an) logs logged = logged
effect_logged s (TxDel an) logs logged = logged
effect_logged s (RxSc sci) logs logged = logged
effect_logged s (RxScDel sci) logs logged = closed_with (λ x. same_sci x.0 sci) (λ log. same_sci log.sci sci) (λ log live. refl) s.rx.rows logs logged
effect_logged s (RxSa sci an key ssci lowest) logs logged = one_more s.rx.rows logs _ _ refl refl logged
effect_logged s (RxOn sci an) logs logged = rows_changed (at_place (row_switched true) sci an) (at_one_place (row_switched true) (λ row. refl) sci an) s.rx.rows logs logged
effect_logged s (RxOff sci an) logs logged = rows_changed (at_place (row_switched false) sci an) (at_one_place (row_switched false) (λ row. refl) sci an) s.rx.rows logs logged
effect_logged s (RxLow sci an pn) logs logged = rows_changed (at_place (row_raised pn) sci an) (at_one_place (row_raised pn) (λ row. refl) sci an) s.rx.rows logs logged
effect_logged s (RxDel sci an) logs logged =
    closed_with (λ x. same_sci x.0 sci && x.1 == an) (is_live_at sci an) (λ log live. ap (λ b. b && same_sci log.sci sci && log.an == an) live) s.rx.rows logs logged

command_logged : (s : State) (c : Command) (r : Option Refusal) (logs : List DeliveryLog) → AreLogged s.rx.rows logs →
    AreLogged (unless_refused r s c).rx.rows (delivered_after (operator_command c) (command_output r) logs)
command_logged s c None logs logged = effect_logged s c logs logged
command_logged s c (Some r) logs logged = logged

-- ---- link frames

delivering_keeps : (test : DeliveryLog → Bool) (frame : List ℕ) (logs : List DeliveryLog) →
    map association_of_log (live_logs (with_first test (log_delivering frame) logs)) ≡ map association_of_log (live_logs logs)
delivering_keeps test frame [] = refl
delivering_keeps test frame (log ∷ logs) = by_test (test log) (delivering_keeps test frame logs)
  where
    same_kept : (live : Bool) →
        map association_of_log (cond live (log_delivering frame log ∷ live_logs logs) (live_logs logs)) ≡ map association_of_log (cond live (log ∷ live_logs logs) (live_logs logs))
    same_kept true = refl
    same_kept false = refl

    later : (live : Bool) → map association_of_log (live_logs (with_first test (log_delivering frame) logs)) ≡ map association_of_log (live_logs logs) →
        map association_of_log (cond live (log ∷ live_logs (with_first test (log_delivering frame) logs)) (live_logs (with_first test (log_delivering frame) logs))) ≡
        map association_of_log (cond live (log ∷ live_logs logs) (live_logs logs))
    later true rest = ap (λ xs. association_of_log log ∷ xs) rest
    later false rest = rest

    by_test : (b : Bool) → map association_of_log (live_logs (with_first test (log_delivering frame) logs)) ≡ map association_of_log (live_logs logs) →
        let after = if b then log_delivering frame log ∷ logs else log ∷ with_first test (log_delivering frame) logs in
        map association_of_log (live_logs after) ≡ map association_of_log (live_logs (log ∷ logs))
    by_test true rest = same_kept log.live
    by_test false rest = later log.live rest

accepted_logged : (window : ℕ) (number : Option ℕ) (row : Option RxRow) (rows : List RxRow) (logs : List DeliveryLog) → AreLogged rows logs →
    AreLogged (rows_accepting window number row rows) logs
accepted_logged window None row rows logs logged = logged
accepted_logged window (Some number) None rows logs logged = logged
accepted_logged window (Some number) (Some row) rows logs logged =
    rows_changed (at_place (row_accepting window number) row.sci row.an) (at_one_place (row_accepting window number) (λ r. refl) row.sci row.an) rows logs logged

delivered_logged : (rows : List RxRow) (logs : List DeliveryLog) (frame : List ℕ) (verdict : Verdict) (row : Option RxRow) (o : Option (List ℕ)) → AreLogged rows logs →
    AreLogged rows (delivered_after (link_frame frame) (received verdict (option_map place_of row) frame o) logs)
delivered_logged rows logs frame verdict None None logged = logged
delivered_logged rows logs frame verdict None (Some delivered) logged = logged
delivered_logged rows logs frame verdict (Some row) None logged = logged
delivered_logged rows logs frame verdict (Some row) (Some delivered) logged = delivering_keeps (is_live_at row.sci row.an) delivered logs ∙ logged

-- ---- every input

frame_logged : (s : State) (frame : List ℕ) (f : Option FrameFault) (logs : List DeliveryLog) → AreLogged s.rx.rows logs →
    AreLogged (unless_fault f s (received_output frame (judgement_of s frame), state_after_receiving s frame (judgement_of s frame))).1.rx.rows
    (delivered_after (link_frame frame) (unless_fault f s (received_output frame (judgement_of s frame), state_after_receiving s frame (judgement_of s frame))).0 logs)
frame_logged s frame None logs logged =
    let j = judgement_of s frame in
    let window = s.options.window in
    let logged_then = accepted_logged window (accepted_number j) j.row s.rx.rows logs logged in
    delivered_logged (rows_after window j s.rx.rows) logs frame j.verdict j.row j.delivered logged_then
frame_logged s frame (Some f) logs logged = logged

sent_logged : (s : State) (frame : List ℕ) (f : Option FrameFault) (logs : List DeliveryLog) → AreLogged s.rx.rows logs →
    AreLogged (unless_fault f s (sent_output frame (sending_of s frame).leaving, state_after_sending s frame (sending_of s frame))).1.rx.rows logs
sent_logged s frame None logs logged = logged
sent_logged s frame (Some f) logs logged = logged

uncontrolled_logged : (s : State) (frame : List ℕ) (f : Option FrameFault) (logs : List DeliveryLog) → AreLogged s.rx.rows logs →
    AreLogged (unless_fault f s (leaves frame None, s)).1.rx.rows logs
uncontrolled_logged s frame None logs logged = logged
uncontrolled_logged s frame (Some f) logs logged = logged

abbrev IsLoggedEnd : EndState → Type 0
IsLoggedEnd e = AreLogged e.state.rx.rows e.delivered

input_logged : (e : EndState) (input : Input) → IsLoggedEnd e → IsLoggedEnd (end_after e input (step e.state input))
input_logged e (operator_command c) logged = command_logged e.state c (refusal e.state c) e.delivered logged
input_logged e (client_frame frame) logged = sent_logged e.state frame (frame_fault frame) e.delivered logged
input_logged e (uncontrolled_frame frame) logged = uncontrolled_logged e.state frame (frame_fault frame) e.delivered logged
input_logged e (link_frame frame) logged = frame_logged e.state frame (frame_fault frame) e.delivered logged

-- ---- an end stays sound

pub sound_after : (old : EndState) (input : Input) (output : Output) (new : EndState) → EndHappens old input output new → IsSoundEnd old →
    endpoint.IsSound new.state → IsSoundEnd new
sound_after old input output new happens sound endpoint_sound = record {
  endpoint = endpoint_sound;
  logged = subst IsLoggedEnd (sym happens.end) (input_logged old input sound.logged);
}

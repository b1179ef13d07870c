-- An endpoint that receives the frame that another one sealed with packet number 1: its commands and its states. The
-- cipher is not computed: all that is known of the frame's tag is that it opens.
use Rattle.macsec_commands.specs.declared.command.Command.{Command}
use Rattle.macsec_counterexamples.proofs.{
  Names.{[], ◌<◌, ◌∷◌, ◌≡◌, at_row, Bool, Delayed, false, highest, IsSound, Judgement, judgement_of, KeepingInput, Key},
  Names.{link_frame, List, map, Passed, receiving_name, refl, Replay, Reservation, RxOn, RxSa, RxSc, sending_name},
  Names.{Some, start, State, state_after_receiving, step, true, Verdict, ℕ},
  Link.{Exchange.{Opens, link_frame_of, client}, WorkedEnds.{bytes, gcm_b, new_key, no_salt, rx_from, sci_a}},
  Restarts.{
    Goes.{Goes, command, commands_go, ended, is_new},
    Senders.kept,
    Tables.{after_commands, all_fit, begins_sound, commands_sound, heard_sound as link_sound, none_refused, tables_fit},
  },
}

-- one that drops late frames; one with a window of 1; one that delivers late frames, from packet number 2 on
pub data Receiver : Type 0 where
  Plain : Receiver
  Wide : Receiver
  Off : Receiver

abbrev pub lowest_of : Receiver → ℕ
lowest_of Off = 2
lowest_of r = 1

abbrev pub replay_of : Receiver → Bool
replay_of Off = false
replay_of r = true

abbrev pub window_of : Receiver → ℕ
window_of Wide = 1
window_of r = 0

abbrev pub commands : Receiver → List Command
commands r = Key (new_key no_salt 2) ∷ RxSc sci_a ∷ RxSa sci_a 0 0 1 (lowest_of r) ∷ RxOn sci_a 0
    ∷ Replay (replay_of r) (window_of r) ∷ []

abbrev pub inputs : Receiver → List KeepingInput
inputs r = map command (commands r)

-- the frame, with this tag
abbrev pub frame : List ℕ → List ℕ
frame t = link_frame_of 1 (client 1) t

-- ---- its states

abbrev pub ready : Receiver → State
ready r = after_commands (start gcm_b) (commands r)

abbrev pub verdict_of : Receiver → Verdict
verdict_of Off = Delayed
verdict_of r = Passed

abbrev pub judged_as : Receiver → Judgement
judged_as r = at_row (rx_from (lowest_of r)) 1 13 (verdict_of r) (Some (client 1))

pub judged : (r : Receiver) (t : List ℕ) → Opens 1 t → judgement_of (ready r) (frame t) ≡ judged_as r
judged Plain t is = rw is
judged it t is = rw is

-- the state after the frame
abbrev pub heard : Receiver → List ℕ → State
heard r t = state_after_receiving (ready r) (frame t) (judged_as r)

pub is_heard : (r : Receiver) (t : List ℕ) → Opens 1 t → (step (ready r) (link_frame (frame t))).1 ≡ heard r t
is_heard r t is = rw (judged _ _ is)

-- ---- they are sound

first_sound : IsSound (start gcm_b)
first_sound = begins_sound _ refl

carried : (r : Receiver) → none_refused (start gcm_b) (commands r) ≡ true
carried Plain = refl
carried Wide = refl
carried Off = refl

fit : (r : Receiver) → all_fit (start gcm_b) (commands r) ≡ true
fit Plain = refl
fit Wide = refl
fit Off = refl

pub ready_sound : (r : Receiver) → IsSound (ready r)
ready_sound r = commands_sound (commands r) (carried r) (fit r) first_sound

heard_fit : (r : Receiver) (t : List ℕ) → tables_fit (heard r t) ≡ true
heard_fit Plain t = refl
heard_fit Wide t = refl
heard_fit Off t = refl

pub heard_sound : (r : Receiver) (t : List ℕ) → Opens 1 t → IsSound (heard r t)
heard_sound r t is = link_sound (frame t) (is_heard _ _ is) (heard_fit r t) (ready_sound _)

-- ---- its steps, with any journal that has not saved the packet number

abbrev pub name_of : List ℕ → List ℕ
name_of salt = receiving_name (sending_name salt bytes) sci_a 0

pub goes : (salt : List ℕ) (before : List Reservation) (r : Receiver) → highest before (name_of salt) < lowest_of r →
    Goes (kept salt before [] (start gcm_b)) (inputs r) [] (kept salt before [] (ready r))
goes salt before r free = commands_go (commands r)
    {inputs = []} (refl, (refl, (is_new before (name_of salt) (lowest_of r) free, (refl, (refl, tt)))))
    (carried r) (fit r) first_sound (ended _ (ready_sound r))

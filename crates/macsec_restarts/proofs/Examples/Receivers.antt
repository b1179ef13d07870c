-- The runs of an end that receives: the commands, and the states that frames leave. The cipher is not computed: all
-- that is known of a frame's ICV is that it is valid.
use Rattle.macsec_counterexamples.proofs.Link.Exchange.{link_frame_of}
use Rattle.macsec_restarts.proofs.Examples.Told.{begun_as, good, heard_by, IsGood, on_as, set_up_told, SetsUp}
use Rattle.macsec_restarts.proofs.Examples.Told.{short, Told}
use Rattle.macsec_restarts.proofs.Examples.Without.{Premise}
use Rattle.macsec_restarts.proofs.Names.{[], ◌++◌, ◌<◌, ◌∷◌, ◌≡◌, after_commands, Ahead, at_row, begins_sound, Bool}
use Rattle.macsec_restarts.proofs.Names.{bytes, client, Command, command, commands_sound, Delivery, endpoint_input}
use Rattle.macsec_restarts.proofs.Names.{false, gcm_b, highest, Inputs, is_new, IsSound, Judgement, judgement_of}
use Rattle.macsec_restarts.proofs.Names.{Keeping, KeepingInput, kept, Key, key_row, Late, link_frame, List, map}
use Rattle.macsec_restarts.proofs.Names.{name_of, new_key, no_salt, None, Opens, Passed, refl, Reservation, rx_from}
use Rattle.macsec_restarts.proofs.Names.{RxOn, RxSa, RxSc, sci_a, Some, start, State, state_after_receiving, true}
use Rattle.macsec_restarts.proofs.Names.{Uses, ℕ}
use Rattle.macsec_suite.specs.declared.key_row.NewKey.{NewKey}

-- the frame that the other end sealed with this packet number, with this tag
abbrev pub frame : ℕ → List ℕ → List ℕ
frame number t = link_frame_of number (client number) t

abbrev pub link : ℕ → List ℕ → KeepingInput
link number t = endpoint_input (link_frame (frame number t))

-- what it delivers
abbrev pub delivery : ℕ → Delivery
delivery number = record { bytes = bytes; sci = sci_a; an = 0; number = number; frame = client number }

-- its lowest packet number: the first run begins the SA at 1, the second one at 2
abbrev pub lowest_of : Bool → ℕ
lowest_of false = 1
lowest_of true = 2

abbrev pub key : NewKey
key = new_key no_salt 2

abbrev pub sa : Bool → List Command
sa again = RxSc sci_a ∷ RxSa sci_a 0 0 1 (lowest_of again) ∷ RxOn sci_a 0 ∷ []

abbrev pub commands : Bool → Inputs
commands again = map command (Key key ∷ sa again)

-- ---- its states

abbrev pub ready : Bool → State
ready again = after_commands (start gcm_b) (Key key ∷ sa again)

sets_up : (again : Bool) → SetsUp (short 2) gcm_b key (sa again)
sets_up false = record { fits = refl; none = refl; fit = λ long. refl; keep = refl; keys = refl }
sets_up true = record { fits = refl; none = refl; fit = λ long. refl; keep = refl; keys = refl }

pub start_sound : IsSound (start gcm_b)
start_sound = begins_sound gcm_b refl

ready_sound : (again : Bool) → IsSound (ready again)
ready_sound again = commands_sound (Key key ∷ sa again) (sets_up again).none ((sets_up again).fit refl) start_sound

-- it has one key
pub is_good : {s : State} → s.keys ≡ key_row 2 1 ∷ [] → IsSound s → IsGood (short 2) s
is_good keys sound = good (short 2) 1 keys (λ long. sound)

pub ready_good : (again : Bool) → IsGood (short 2) (ready again)
ready_good false = is_good refl (ready_sound false)
ready_good true = is_good refl (ready_sound true)

-- ---- a frame that is judged so

-- the first frame, at the first run
abbrev pub accepts_1 : Judgement
accepts_1 = at_row (rx_from 1) 1 13 Passed (Some (client 1))

pub judged_1 : (t : List ℕ) → Opens 1 t → judgement_of (ready false) (frame 1 t) ≡ accepts_1
judged_1 t is = rw is

abbrev pub heard_1 : List ℕ → State
heard_1 t = state_after_receiving (ready false) (frame 1 t) accepts_1

pub heard_1_sound : (t : List ℕ) → Opens 1 t → IsSound (heard_1 t)
heard_1_sound t is = heard_by (frame 1 t) refl (judged_1 t is) refl (ready_sound false)

pub heard_1_good : (t : List ℕ) → Opens 1 t → IsGood (short 2) (heard_1 t)
heard_1_good t is = is_good refl (heard_1_sound t is)

-- its replay, at the first run
abbrev pub is_late : Judgement
is_late = at_row (rx_from 2) 1 8 Late None

pub late_then : (t : List ℕ) → judgement_of (heard_1 t) (frame 1 t) ≡ is_late
late_then t = refl

abbrev pub dropped_1 : List ℕ → State
dropped_1 t = state_after_receiving (heard_1 t) (frame 1 t) is_late

pub dropped_1_good : (t : List ℕ) → Opens 1 t → IsGood (short 2) (dropped_1 t)
dropped_1_good t is = is_good refl (heard_by (frame 1 t) refl (late_then t) refl (heard_1_sound t is))

-- its replay, at the second run
pub late_again : (t : List ℕ) → judgement_of (ready true) (frame 1 t) ≡ is_late
late_again t = refl

abbrev pub dropped_2 : List ℕ → State
dropped_2 t = state_after_receiving (ready true) (frame 1 t) is_late

dropped_2_sound : (t : List ℕ) → IsSound (dropped_2 t)
dropped_2_sound t = heard_by (frame 1 t) refl (late_again t) refl (ready_sound true)

pub dropped_2_good : (t : List ℕ) → IsGood (short 2) (dropped_2 t)
dropped_2_good t = is_good refl (dropped_2_sound t)

-- the frame with packet number 3, after that
abbrev pub accepts_3 : Judgement
accepts_3 = at_row (rx_from 2) 3 13 Passed (Some (client 3))

pub judged_3 : (t u : List ℕ) → Opens 3 u → judgement_of (dropped_2 t) (frame 3 u) ≡ accepts_3
judged_3 t u is = rw is

abbrev pub heard_3 : List ℕ → List ℕ → State
heard_3 t u = state_after_receiving (dropped_2 t) (frame 3 u) accepts_3

pub heard_3_good : (t u : List ℕ) → Opens 3 u → IsGood (short 2) (heard_3 t u)
heard_3_good t u is = is_good refl (heard_by (frame 3 u) refl (judged_3 t u is) refl (dropped_2_sound t))

-- ---- its steps, with any journal that has not saved the packet numbers

module _ (salt : List ℕ) (before : List Reservation) where
  abbrev pub at : State → Keeping
  at s = kept salt before [] s

  -- the commands, and what follows them
  pub told : {left_out : Premise} {uses : Uses} {ahead : Bool} (again : Bool) {inputs : Inputs} {ds : List Delivery}
      {last : Ahead} → highest before (name_of salt) < lowest_of again →
      Told (short 2) left_out uses (on_as ahead (at (ready again))) inputs [] ds last →
      Told (short 2) left_out uses (begun_as ahead (at (start gcm_b))) (commands again ++ inputs) [] ds last
  told again free rest = set_up_told gcm_b key (sa again) salt before (sets_up again) start_sound
      (refl, (refl, (is_new before (name_of salt) (lowest_of again) free, (refl, tt)))) rest

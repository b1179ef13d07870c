-- The work of the cipher on a frame, outside the endpoint.
use Rattle.std.specs.Prelude.{◌≡◌, ℕ, List, [], ◌∷◌, Option, Some, None, IsSome}
use Rattle.macsec_tag.specs.Frame.{MpduParts}
use Rattle.macsec_tag.specs.Table.{Reading, bad, reading, tagged, untagged}
use Rattle.macsec_suite.specs.Keys.{PreparedKey}
use Rattle.macsec_suite.specs.KeyRows.{InstalledKey, key_row, prepared_key, the_key}
use Rattle.macsec_tx.specs.declared.SealJob.{SealJob}
use Rattle.macsec_rx.specs.declared.OpenJob.{OpenJob}
use Rattle.macsec_rx.specs.declared.OpenedFrame.{OpenedFrame}
use Rattle.macsec_rx.specs.Opened.{IfOpened, IsOpenedBy, job_tagged}
use Rattle.macsec_secy.specs.declared.fault.FrameFault.{FrameFault}
use Rattle.macsec_secy.specs.Answers.{SealsOutput}
use Rattle.macsec_secy.specs.State.{State, rx_options}
use Rattle.macsec_secy.specs.Step.{Input, Output, frame_fault, step}

-- ---- opening

abbrev pub job_of_reading : State → Reading → Option OpenJob
job_of_reading s untagged = None
job_of_reading s (bad fault) = None
job_of_reading s (tagged p) = job_tagged (rx_options s) s.keys s.rx p

abbrev pub job_unless_fault : Option FrameFault → Option OpenJob → Option OpenJob
job_unless_fault None job = job
job_unless_fault (Some fault) job = None

-- the opening that a link frame needs in this state, if it needs one
abbrev pub job_of_frame : State → List ℕ → Option OpenJob
job_of_frame s frame = job_unless_fault (frame_fault frame) (job_of_reading s (reading frame))

-- what was opened, if anything, was opened from this frame with the key of its number
abbrev pub OpensFrame : Option OpenedFrame → List InstalledKey → List ℕ → List ℕ → Type 0
OpensFrame opened keys frame out = (p : MpduParts) → reading frame ≡ tagged p → IfOpened opened keys p out

-- it was opened from this frame by the job, with this key
pub record IsOfJob (o : OpenedFrame) (job : OpenJob) (prepared : PreparedKey) (frame out : List ℕ) : Type 0 where
  pub key : o.key ≡ job.key
  pub iv : o.iv ≡ job.iv
  pub opened : (p : MpduParts) → reading frame ≡ tagged p → IsOpenedBy o prepared p out

-- ---- later states

-- the state after a list of inputs
abbrev pub state_after : State → List Input → State
state_after s [] = s
state_after s (input ∷ inputs) = state_after (step s input).1 inputs

-- the key of this number is in both tables, prepared in the same way
pub record StaysPrepared (keys after : List InstalledKey) (n : ℕ) : Type 0 where
  pub there : IsSome (key_row after n)
  pub prepared : prepared_key (the_key after n) ≡ prepared_key (the_key keys n)

-- whatever the inputs, a key that is in the table stays as it was prepared
abbrev pub KeyStaysPrepared : State → List Input → ℕ → Type 0
KeyStaysPrepared s inputs n = IsSome (key_row s.keys n) → StaysPrepared s.keys (state_after s inputs).keys n

-- whatever the inputs, a job still seals the frame that it was planned for
abbrev pub SealsLater : State → List Input → SealJob → List ℕ → Output → Type 0
SealsLater s inputs job frame output = SealsOutput job s.keys frame output → SealsOutput job (state_after s inputs).keys frame output

-- whatever the inputs, a frame opened with the key that the job's number had is opened with the key that it has
abbrev pub OpensLater : State → List Input → OpenedFrame → OpenJob → List ℕ → List ℕ → Type 0
OpensLater s inputs opened job frame out =
    IsSome (key_row s.keys job.key) → IsOfJob opened job (prepared_key (the_key s.keys job.key)) frame out
    → OpensFrame (Some opened) (state_after s inputs).keys frame out

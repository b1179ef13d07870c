-- A slot: a frame, what is to be done with it, and the key for that.
use Rattle.std.specs.Prelude.{◌≡◌, ◌≤◌, ℕ, ◌+◌, List, [], length, take, nat_lt, Bool, true, false, not, if◌then◌else◌}
use Rattle.std.specs.Prelude.{Option, Some, None, IfSome}
use Rattle.macsec_tag.specs.Frame.{MpduParts}
use Rattle.macsec_tag.specs.Limits.{max_frame_len, min_frame_len}
use Rattle.macsec_tag.specs.Table.{reading, tagged}
use Rattle.macsec_suite.specs.KeyRows.{InstalledKey}
use Rattle.macsec_tx.specs.declared.SealJob.{SealJob}
use Rattle.macsec_tx.specs.Answers.{frame_sealed}
use Rattle.macsec_tx.specs.Transmit.{octets_added}
use Rattle.macsec_rx.specs.declared.OpenedFrame.{OpenedFrame}
use Rattle.macsec_rx.specs.Opened.{IsOpenedBy}
use Rattle.macsec_jobs.specs.declared.job_fault.JobFault.{JobFault}
use Rattle.macsec_jobs.specs.declared.job_fault.JobFault.TheVariants.{NoJob, OtherKey, Space}
use Rattle.macsec_jobs.specs.declared.planned_key.PlannedKey.{PlannedKey}
use Rattle.macsec_jobs.specs.declared.work.Work.{Work}
use Rattle.macsec_jobs.specs.declared.work.Work.TheVariants.{Nothing, Seal, Open, Finish}
use Rattle.macsec_jobs.specs.PlannedKeys.{IsGone, is_installed, key_of, same_key}

-- the work, its key, the frame, the rest of its buffer, and the buffer that a job writes
pub record SlotState : Type 0 where
  pub work : Work
  pub key : PlannedKey
  pub frame : List ℕ
  pub rest : List ℕ
  pub out : List ℕ

-- neither buffer is written
pub record LeavesBuffers (s t : SlotState) : Type 0 where
  pub frame : t.frame ≡ s.frame
  pub rest : t.rest ≡ s.rest
  pub out : t.out ≡ s.out

-- ---- the work

-- there is no frame
abbrev pub is_idle : Work → Bool
is_idle Nothing = true
is_idle (Seal job) = false
is_idle (Open job) = false
is_idle (Finish opened) = false

-- a client frame is to be sealed
abbrev pub is_sealing : Work → Bool
is_sealing Nothing = false
is_sealing (Seal job) = true
is_sealing (Open job) = false
is_sealing (Finish opened) = false

-- a link frame is to be opened
abbrev pub is_opening : Work → Bool
is_opening Nothing = false
is_opening (Seal job) = false
is_opening (Open job) = true
is_opening (Finish opened) = false

-- a link frame can be finished
abbrev pub is_received : Work → Bool
is_received Nothing = false
is_received (Seal job) = false
is_received (Open job) = true
is_received (Finish opened) = true

-- what was opened, if anything was
abbrev pub opened_of : Work → Option OpenedFrame
opened_of Nothing = None
opened_of (Seal job) = None
opened_of (Open job) = None
opened_of (Finish opened) = opened

-- the protected frame of a client frame that is to be sealed
abbrev pub frame_made : Work → PlannedKey → List ℕ → List ℕ
frame_made Nothing key frame = []
frame_made (Seal job) key frame = frame_sealed (key_of key) job frame
frame_made (Open job) key frame = []
frame_made (Finish opened) key frame = []

abbrev pub frame_planned : SlotState → List ℕ
frame_planned s = frame_made s.work s.key s.frame

-- ---- what is true of every slot

-- without a frame there is no key. A job is for this key, and for a frame of this length
pub record IsSealable (job : SealJob) (key : PlannedKey) (frame : List ℕ) : Type 0 where
  pub number : key.number ≡ job.key.number
  pub least : min_frame_len ≤ length frame
  pub fits : length frame + octets_added job.tag ≤ max_frame_len

-- the frame was opened with this key, and what it gave is in the buffer
pub record IsOpenedFrom (o : OpenedFrame) (key : PlannedKey) (frame out : List ℕ) : Type 0 where
  pub number : o.key ≡ key.number
  pub opened : (p : MpduParts) → reading frame ≡ tagged p → IsOpenedBy o (key_of key) p out

abbrev pub IsWork : Work → PlannedKey → List ℕ → List ℕ → Type 0
IsWork Nothing key frame out = IsGone key
IsWork (Seal job) key frame out = IsSealable job key frame
IsWork (Open job) key frame out = job.key ≡ key.number
IsWork (Finish opened) key frame out = IfSome opened (λ o. IsOpenedFrom o key frame out)

-- the buffers hold the longest frame, and the work is for the frame at the beginning of the first
pub record IsSlot
    (work : Work) (key : PlannedKey) (frame_length : ℕ) (frame out : List ℕ) (frame_space out_space : ℕ) : Type 0 where
  pub frame_room : frame_space ≡ max_frame_len
  pub out_room : out_space ≡ max_frame_len
  pub fits : frame_length ≤ max_frame_len
  pub job : IsWork work key (take frame_length frame) out

-- ---- refusals

-- why a frame is not sealed with this key into so many octets
abbrev pub seal_fault : Work → PlannedKey → List ℕ → PlannedKey → ℕ → Option JobFault
seal_fault Nothing planned frame key room = Some NoJob
seal_fault (Seal job) planned frame key room =
    if not (same_key planned key) then Some OtherKey
    else if nat_lt room (length frame + octets_added job.tag) then Some Space
    else None
seal_fault (Open job) planned frame key room = Some NoJob
seal_fault (Finish opened) planned frame key room = Some NoJob

-- why a frame is not opened with this key
abbrev pub open_fault : Work → PlannedKey → PlannedKey → Option JobFault
open_fault Nothing planned key = Some NoJob
open_fault (Seal job) planned key = Some NoJob
open_fault (Open job) planned key = if not (same_key planned key) then Some OtherKey else None
open_fault (Finish opened) planned key = Some NoJob

-- ---- what `finish_receive` uses

-- what was opened, if the endpoint has the key with which it was opened
abbrev pub opened_if : Bool → Work → Option OpenedFrame
opened_if true work = opened_of work
opened_if false work = None

abbrev pub usable : Work → PlannedKey → List InstalledKey → Option OpenedFrame
usable work key keys = opened_if (is_installed key keys) work

-- What the transmit SC plans for a client frame, and the frame that a job seals.
use Rattle.std.specs.Prelude.{◌≡◌, ℕ, List, Bool, Option, Some, option_map}
use Rattle.macsec_tag.specs.Frame.{in_a_row}
use Rattle.macsec_suite.specs.Keys.{PreparedKey}
use Rattle.macsec_suite.specs.KeyRows.{InstalledKey, prepared_key, the_key}
use Rattle.macsec_suite.specs.KeyTables.{IsPlace}
use Rattle.macsec_tx.specs.declared.SealJob.{SealJob}
use Rattle.macsec_tx.specs.declared.TxPlan.{TxPlan}
use Rattle.macsec_tx.specs.declared.TxRow.{TxRow}
use Rattle.macsec_tx.specs.declared.TxPlan.TheVariants.{Plain, Job, NoSa, TooLong}
use Rattle.macsec_tx.specs.Transmit.{Leaving, parts_under, plain, protected, no_sa, too_long}

-- the frame that a job seals from a client frame with a prepared key
abbrev pub frame_sealed : PreparedKey → SealJob → List ℕ → List ℕ
frame_sealed key job frame = in_a_row (parts_under key job.iv job.tag frame)

-- the job's key is in the table, and with it the job seals what is sent
pub record Seals (job : SealJob) (keys : List InstalledKey) (frame : List ℕ) (leaving : Leaving) : Type 0 where
  pub place : IsPlace keys job.key
  pub sends : leaving ≡ protected job.key.number (frame_sealed (prepared_key (the_key keys job.key.number)) job frame)

-- the plan says what is sent
abbrev pub PlansLeaving : TxPlan → List InstalledKey → List ℕ → Leaving → Type 0
PlansLeaving Plain keys frame leaving = leaving ≡ plain
PlansLeaving (Job job) keys frame leaving = Seals job keys frame leaving
PlansLeaving NoSa keys frame leaving = leaving ≡ no_sa
PlansLeaving TooLong keys frame leaving = leaving ≡ too_long

-- if a frame is to be sealed, this holds of the job
abbrev pub IfJob : TxPlan → (SealJob → Type 0) → Type 0
IfJob Plain holds = Unit {0}
IfJob (Job job) holds = holds job
IfJob NoSa holds = Unit {0}
IfJob TooLong holds = Unit {0}

-- an SA sends the frame, and it encrypts if this is true
abbrev pub Encrypts : Option TxRow → Bool → Type 0
Encrypts by e = option_map (λ (row : TxRow). row.conf) by ≡ Some e

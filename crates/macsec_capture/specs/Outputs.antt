-- The two writers of a run, and what is known of their octets.
use Rattle.std.specs.Prelude.{◌≡◌, ℕ, List, Option}
use Rattle.macsec_capture.specs.declared.outputs.Outputs.{Outputs}
use Rattle.macsec_capture.specs.Runs.{Written, known}

-- the octets in both writers, where they are known
abbrev pub written : {W T : Type 0} → (W → Option (List ℕ)) → (T → Option (List ℕ)) → Outputs W T → Written
written octets lines outputs = known (octets outputs.output.now) (lines outputs.text.now)

-- the writers are still the same borrowed ones
pub record BorrowsSame {W T : Type 0} (old new : Outputs W T) : Type 0 where
  pub output : new.output.ghost_name ≡ old.output.ghost_name
  pub text : new.text.ghost_name ≡ old.text.ghost_name

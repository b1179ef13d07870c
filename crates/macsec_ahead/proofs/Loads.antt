-- Commands that are loaded.
use Rattle.{
  std.proofs.Common.{◌≡◌, refl, Result, Ok, Err},
  macsec_suite.specs.{Refusals.refusal_of, declared.refusal.Refusal.Refusal},
  macsec_secy.specs.Answers.output_of_command,
  macsec_reserve.specs.Keeping.endpoint_output,
  macsec_ahead.specs.{Ahead.kept, Loading.refusal_in},
}

-- the refusal of a command is that in its output
pub refusal_kept : {A : Type 0} (r : Result A Refusal) → refusal_of r
    ≡ refusal_in (kept (endpoint_output (output_of_command r)))
refusal_kept (Ok done) = refl
refusal_kept (Err refusal) = refl

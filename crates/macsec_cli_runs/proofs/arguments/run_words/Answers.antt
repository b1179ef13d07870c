-- The fault is `Memory`, so that another fault is refused quickly.
use Rattle.std.proofs.Common.{inr, refl}
use Rattle.macsec_cli_runs.proofs.arguments.run_words.Goals as goal

pub returns-in_default-clause-failure : goal.returns-in_default-clause-failure
returns-in_default-clause-failure c = inr refl

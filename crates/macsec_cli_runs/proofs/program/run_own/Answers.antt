-- By this tactic alone, so that the prover tries nothing else on a mutant.
use Rattle.std.proofs.Common.{rules}
use Rattle.macsec_cli_runs.proofs.program.run_own.Goals as goal

pub returns-in-Ok-clause-read : goal.returns-in-Ok-clause-read
returns-in-Ok-clause-read g c = search rules

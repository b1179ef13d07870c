use Rattle.std.proofs.Common.{rules}
use Rattle.macsec_cli_runs.proofs.scripts.run_named.Goals as goal

pub returns-in-Ok-run_read-clause-file : goal.returns-in-Ok-run_read-clause-file
returns-in-Ok-run_read-clause-file g c = search rules

pub returns-clause-file : goal.returns-clause-file
returns-clause-file g c = search rules

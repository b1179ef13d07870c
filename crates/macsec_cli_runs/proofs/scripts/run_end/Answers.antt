use Rattle.std.proofs.Common.{rules}
use Rattle.macsec_cli_runs.proofs.scripts.run_end.Goals as goal

pub returns : goal.returns
returns c = search rules

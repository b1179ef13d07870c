use Rattle.std.proofs.Common.{rules}
use Rattle.macsec_cli_runs.proofs.failures.failure_of_words.Goals as goal

pub returns-then-eq-clause-usage : goal.returns-then-eq-clause-usage
returns-then-eq-clause-usage c = search rules

pub returns-else-eq-clause-memory : goal.returns-else-eq-clause-memory
returns-else-eq-clause-memory c = search rules

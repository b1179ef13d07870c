use Rattle.macsec_secy.proofs.Names.{rules}
use Rattle.macsec_secy.proofs.counters.TxCounters.count.Goals as goal

pub returns-then-conf : goal.returns-then-conf
returns-then-conf c = search rules

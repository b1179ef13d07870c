-- By search; written down so that a wrong body is refused quickly.
use Rattle.macsec_secy.proofs.Names.{rules}
use Rattle.macsec_secy.proofs.counters.ChannelCounters.add.Goals as goal

pub returns-then-eq : goal.returns-then-eq
returns-then-eq c = search rules steps 100000

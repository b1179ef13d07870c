-- By search; written down so that a wrong body is refused quickly.
use Rattle.macsec_secy.proofs.Names.{rules}
use Rattle.macsec_secy.proofs.counters.ChannelCounters.count.Goals as goal

pub returns-in-Some : goal.returns-in-Some
returns-in-Some c = search rules steps 100000

pub returns-in_default : goal.returns-in_default
returns-in_default c = search rules steps 100000

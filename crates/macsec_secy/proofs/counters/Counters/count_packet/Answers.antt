use Rattle.macsec_secy.proofs.Names.{rules}
use Rattle.macsec_secy.proofs.counters.Counters.count_packet.Goals as goal

pub returns-in-BadTag : goal.returns-in-BadTag
returns-in-BadTag c = search rules

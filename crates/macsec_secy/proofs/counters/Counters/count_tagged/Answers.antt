-- The counters are the defined ones: one goal with E set, one with E clear. By search; written down to save time.
use Rattle.macsec_secy.proofs.Names.{rules}
use Rattle.macsec_secy.proofs.counters.Counters.count_tagged.Goals as goal

pub returns-then-e : goal.returns-then-e
returns-then-e c = search rules steps 100000

pub returns-else-e : goal.returns-else-e
returns-else-e c = search rules steps 100000

use Rattle.macsec_ahead.proofs.LastEnds.{last_under-more}
use Rattle.macsec_ahead.proofs.ends.last_under.Goals as goal

pub loop-e-preserved : goal.loop-e-preserved
loop-e-preserved c = last_under-more _ _ c.e-item.result _ _ _ c.loop-e-test.true c.e-item.is c.loop-e.invariant c.with_number-last.ensures

use Rattle.macsec_ahead.proofs.LastEnds.{last_end-more}
use Rattle.macsec_ahead.proofs.ends.last_end.Goals as goal

pub loop-e-preserved : goal.loop-e-preserved
loop-e-preserved c = last_end-more _ _ c.e-item.result _ _ _ _ _ c.loop-e-test.true c.e-item.is c.loop-e.invariant c.with_entry-last.ensures

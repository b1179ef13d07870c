use Rattle.macsec_reserve.proofs.Prelude.{arith, get_or_default, map_over_more, raised_by}
use Rattle.macsec_reserve.proofs.entries.raise.Goals as goal

pub loop-reserved-preserved : goal.loop-reserved-preserved
loop-reserved-preserved c =
    rw c.raised_by.ensures
    (map_over_more (raised_by c.args.by.now) c.args.entries.now c.loop-reserved.entries c.loop-reserved.reserved-index _ (omega arith) c.loop-reserved.invariant
    (get_or_default c.loop-reserved.entries c.loop-reserved.reserved-index _ _ (omega arith)))

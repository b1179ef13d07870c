use Rattle.{std.proofs.Common.arith, macsec_ahead.{proofs.Entries.one_more, specs.Limits.limits_for}}
use Rattle.macsec_ahead.proofs.keeper.append_limits.Goals as goal

pub loop-row-preserved : goal.loop-row-preserved
loop-row-preserved c =
    let pushed = rw c.unwrap.ensures at c.push.ensures.items in
    let longer = rw c.unwrap.ensures at c.push.ensures.len in (
      one_more (limits_for c.args.keeper.now c.args.taken.now) c.args.limits.now.items c.loop-row.limits.items c.push.new.self.items c.args.rows.now c.loop-row.row-index c.row-item.result c.limits_for.result
          c.loop-row-test.true c.row-item.is c.limits_for.ensures c.loop-row.invariant.0 pushed,
      omega (arith, longer, c.loop-row.invariant.1),
      omega (arith, c.loop-row.invariant.2, c.push.ensures.capacity),
      omega (arith, c.loop-row.invariant.3, c.push.ensures.capacity),
    )

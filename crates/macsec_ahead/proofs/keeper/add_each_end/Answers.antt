use Rattle.{std.proofs.Common.{◌∙◌}, macsec_ahead.proofs.LastEnds.ends_one_more}
use Rattle.macsec_ahead.proofs.keeper.add_each_end.Goals as goal

pub loop-row-preserved : goal.loop-row-preserved
loop-row-preserved c =
    c.loop-row.invariant
    ∙ ends_one_more c.args.secy.now c.args.rows.now c.loop-row.row-index c.row-item.result c.loop-row.ended c.add_end.new.ended c.loop-row-test.true c.row-item.is c.add_end.ensures

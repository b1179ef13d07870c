use Rattle.macsec_secy.proofs.Names.{arith, at_channel, get_or_default, map_over_more, with_association}
use Rattle.macsec_secy.proofs.associations.add_association.Goals as goal

pub loop-row-preserved : goal.loop-row-preserved
loop-row-preserved c =
    rw c.add.ensures
    (map_over_more (at_channel (with_association c.args.an) c.args.sci) c.args.rows.now c.loop-row.rows c.loop-row.row-index _ (omega arith) c.loop-row.invariant
    (get_or_default c.loop-row.rows c.loop-row.row-index _ _ (omega arith)))

use Rattle.{std.proofs.{Common.arith, lemmas.List.Edits.map_over_more}, macsec_tx.specs.Commands.switch_to}
use Rattle.macsec_tx.proofs.channel.switch_to.Goals as goal

pub loop-row-preserved : goal.loop-row-preserved
loop-row-preserved c =
    rw (c.switched_row.ensures, ← c.row-item.is)
    (map_over_more (switch_to c.args.an) c.args.rows.now c.loop-row.rows c.loop-row.row-index c.row-item.result (omega arith) c.loop-row.invariant c.row-item.is)

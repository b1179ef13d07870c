use Rattle.{std.proofs.{Common.arith, lemmas.List.Edits.map_over_more}, macsec_tx.specs.Commands.off_at}
use Rattle.macsec_tx.proofs.channel.switch_off.Goals as goal

pub loop-row-preserved : goal.loop-row-preserved
loop-row-preserved c =
    rw (c.off_row.ensures, ← c.row-item.is)
    (map_over_more (off_at c.args.an) c.args.rows.now c.loop-row.rows c.loop-row.row-index c.row-item.result (omega arith) c.loop-row.invariant c.row-item.is)

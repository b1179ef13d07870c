use Rattle.{std.proofs.{Common.arith, lemmas.List.Edits.map_over_more}, macsec_rx.specs.Commands.row_narrowed}
use Rattle.macsec_rx.proofs.channels.narrow.Goals as goal

pub loop-row-preserved : goal.loop-row-preserved
loop-row-preserved c =
    rw (c.row_narrowed.ensures, ← c.row-item.is)
    (map_over_more (row_narrowed c.args.window) c.args.rows.now c.loop-row.rows c.loop-row.row-index c.row-item.result (omega arith) c.loop-row.invariant c.row-item.is)

use Rattle.{std.proofs.Common.arith, macsec_script_printer.proofs.Pieces.one_more_piece}
use Rattle.macsec_script_printer.proofs.numbers.write_rx_rows.Goals as goal

pub loop-an-preserved : goal.loop-an-preserved
loop-an-preserved g c =
    let line = rw c.rx_row.ensures at c.in_ok-write_rx_row.ensures in
    one_more_piece _ c.association_numbers-an-items.result c.loop-an.an-index c.an-item.result _ _ _ (omega arith) c.loop-an.invariant line

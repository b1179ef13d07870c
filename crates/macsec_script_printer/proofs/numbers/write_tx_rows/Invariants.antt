use Rattle.{
  std.{proofs.Common.{take, flat_map}, specs.Io.KnownBytes.Appends},
  macsec_tx.specs.Transmit.tx_row,
  macsec_script_printer.specs.Numbers.tx_text,
}
use Rattle.macsec_script_printer.proofs.numbers.write_tx_rows.Given as goal

abbrev pub invariant-loop-an : goal.invariant-loop-an
invariant-loop-an g l =
    Appends (g.W.Write.contents l.initial.writer) (g.W.Write.contents l.writer)
    (flat_map (λ an. tx_text l.n (tx_row l.endpoint.tx an)) (take l.an-index l.an-items))

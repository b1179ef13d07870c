use Rattle.{
  std.{proofs.Common.{take, flat_map}, specs.Io.KnownBytes.Appends},
  macsec_rx.specs.Channels.rx_row,
  macsec_script_printer.specs.Numbers.rx_text,
}
use Rattle.macsec_script_printer.proofs.numbers.write_rx_rows.Given as goal

abbrev pub invariant-loop-an : goal.invariant-loop-an
invariant-loop-an g l =
    Appends (g.W.Write.contents l.initial.writer) (g.W.Write.contents l.writer)
    (flat_map (λ an. rx_text l.n (rx_row l.endpoint.rx.rows l.sci an)) (take l.an-index l.an-items))

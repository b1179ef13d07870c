use Rattle.{
  std.{proofs.Common.{take, flat_map}, specs.Io.KnownBytes.Appends},
  macsec_secy.specs.Answers.rx_sa_counters_of,
  macsec_script_printer.specs.Counters.sa_counters_text,
}
use Rattle.macsec_script_printer.proofs.counters.write_associations.Given as goal

abbrev pub invariant-loop-an : goal.invariant-loop-an
invariant-loop-an g l =
    Appends (g.W.Write.contents l.initial.writer) (g.W.Write.contents l.writer)
    (flat_map (λ an. sa_counters_text l.label l.sci an (rx_sa_counters_of l.endpoint.rx_counters l.sci an)) (take l.an-index l.an-items))

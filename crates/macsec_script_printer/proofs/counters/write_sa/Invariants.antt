use Rattle.{
  std.{proofs.Common.{map, take, flat_map}, specs.Io.KnownBytes.Appends},
  macsec_script_printer.specs.Counters.sa_counter_text,
}
use Rattle.macsec_script_printer.proofs.counters.write_sa.Given as goal

abbrev pub invariant-loop-name : goal.invariant-loop-name
invariant-loop-name g l =
    Appends (g.W.Write.contents l.initial.writer) (g.W.Write.contents l.writer)
    (flat_map (sa_counter_text l.label l.sci l.an) (map (λ c. (c.0.now, c.1)) (take l.name-index l.counters)))

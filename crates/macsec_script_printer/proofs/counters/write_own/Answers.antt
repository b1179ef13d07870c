use Rattle.{std.proofs.Common.arith, macsec_script_printer.{proofs.Pieces.one_more_seen, specs.Counters.counter_text}}
use Rattle.macsec_script_printer.proofs.counters.write_own.Goals as goal

pub loop-name-preserved : goal.loop-name-preserved
loop-name-preserved g c =
    one_more_seen (λ c. (c.0.now, c.1)) (counter_text c.args.label)
    c.args.counters.now c.loop-name.name-index _ _ _ _ (omega arith) c.loop-name.invariant c.in_ok-write_counter.ensures

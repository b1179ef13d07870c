use Rattle.{
  std.proofs.{Common.arith, lemmas.List.{get_or_default, Edits.map_over_more}},
  macsec_ahead.specs.Ends.sa_raised,
}
use Rattle.macsec_ahead.proofs.ends.raise_entries.Goals as goal

pub loop-e-preserved : goal.loop-e-preserved
loop-e-preserved c =
    rw c.sa_raised.ensures
    (map_over_more (sa_raised c.args.by.now) c.args.entries.now c.loop-e.entries c.loop-e.e-index _ (omega arith) c.loop-e.invariant
    (get_or_default c.loop-e.entries c.loop-e.e-index _ _ (omega arith)))

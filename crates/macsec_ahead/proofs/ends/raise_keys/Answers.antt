use Rattle.{
  std.proofs.{Common.arith, lemmas.List.{get_or_default, Edits.map_over_more}},
  macsec_ahead.specs.Ends.key_raised,
}
use Rattle.macsec_ahead.proofs.ends.raise_keys.Goals as goal

pub loop-e-preserved : goal.loop-e-preserved
loop-e-preserved c =
    rw c.key_raised.ensures
    (map_over_more (key_raised c.args.by.now) c.args.keys.now c.loop-e.keys c.loop-e.e-index _ (omega arith) c.loop-e.invariant
    (get_or_default c.loop-e.keys c.loop-e.e-index _ _ (omega arith)))

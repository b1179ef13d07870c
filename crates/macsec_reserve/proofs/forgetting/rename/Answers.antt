use Rattle.macsec_reserve.proofs.Prelude.{arith, get_or_default, map_over_more, renamed}
use Rattle.macsec_reserve.proofs.forgetting.rename.Goals as goal

pub loop-named-preserved : goal.loop-named-preserved
loop-named-preserved c =
    rw c.renamed.ensures
    (map_over_more (renamed c.args.number c.args.name.now) c.args.names.now c.loop-named.names c.loop-named.named-index _ (omega arith) c.loop-named.invariant
    (get_or_default c.loop-named.names c.loop-named.named-index _ _ (omega arith)))

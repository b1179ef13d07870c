use Rattle.{
  std.proofs.{Common.{get_or, bit_xor, arith, rules}, lemmas.List.FromFn.fill_by_all},
  macsec_gcm.specs.Octets.sum_with_stream,
}
use Rattle.macsec_gcm.proofs.key_stream.add_one_by_one.Goals as goal

pub returns : goal.returns
unfolding sum_with_stream
returns c =
    fill_by_all (λ k. bit_xor (get_or c.args.text.now k 0) (get_or c.args.stream.now k 0)) _ _ 0 (search rules)
    (λ j lt. c.loop-k.invariant.done j (omega arith))

use Rattle.{
  std.proofs.{Common.{get_or, bit_xor, rules}, lemmas.List.FromFn.fill_by_all},
  macsec_gcm.specs.Octets.sum_with_stream,
}
use Rattle.macsec_suite.proofs.iv.exclusive_or.Goals as goal

pub returns : goal.returns
unfolding sum_with_stream
returns c =
    fill_by_all (λ k. bit_xor (get_or c.args.text k 0) (get_or c.args.other k 0)) _ _ 0 (search rules)
    (λ k lt.
    let call = c.from_fn.ensures.items.at k 0 (search rules) in
    search rules)

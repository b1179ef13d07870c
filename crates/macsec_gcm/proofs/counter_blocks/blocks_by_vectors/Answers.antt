use Rattle.std.{
  proofs.Common.{◌≡◌, ◌+◌, ◌-◌, ℕ, ap, ◌∙◌, sym, arith, refl, rules, []},
  proofs.lemmas.{List.{length-replicate, Edits.fill_by_more}, Simd.get_or-replicate},
  specs.Fn.iterate,
}
use Rattle.macsec_gcm.{proofs.Iterations.iterate_more, specs.Gcm.inc32}
use Rattle.macsec_gcm.proofs.counter_blocks.blocks_by_vectors.Goals as goal

pub loop-i-preserved : goal.loop-i-preserved
loop-i-preserved g c =
    let i : ℕ = c.loop-i.i in
    let first = c.args.first in
    let last : i - 1 + 1 ≡ i = omega arith in
    let later : i + 1 - 1 ≡ i = omega arith in
    let next : c.next_block-next.result ≡ iterate inc32 i first =
    c.next_block-next.ensures ∙ ap inc32 c.loop-i.invariant.last ∙ sym (iterate_more inc32 (i - 1) first) ∙ ap (λ
    (n : ℕ). iterate inc32 n first) last in
    record {
      count = search rules;
      made = rw next (fill_by_more (λ k. iterate inc32 k first) _ i [] (omega arith) c.loop-i.invariant.made);
      last = rw later next;
    }

pub loop-i-init : goal.loop-i-init
loop-i-init g c = record {
  count = length-replicate g.row.N c.args.first;
  made = λ k lt.
      let none : k ≡ 0 = omega arith in
      rw none (get_or-replicate g.row.N 0 c.args.first [] c.requires);
  last = refl;
}

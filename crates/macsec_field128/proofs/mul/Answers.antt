-- The loop adds up the product bit by bit, and after 128 bits the sum is `block_product`. Each step adds one term, a
-- bit times the power (`Sums`), and multiplies the power by x.
use Rattle.std.{proofs.{Common.{◌≡◌, ℕ, ◌-◌, ◌*◌, ◌∙◌, sym, arith}, lemmas.Nat.Bits.shr_and_one}, specs.Fn.iterate}
use Rattle.macsec_field128.{
  proofs.{Iterations.{iterate_none, iterate_more}, Sums.{sum_below_more, sum_below_none}},
  specs.Field.{bit_of, block_product, times_x},
}
use Rattle.macsec_field128.proofs.mul.Goals as goal

pub loop-i-init : goal.loop-i-init
loop-i-init c = (sym (sum_below_none _), sym (iterate_none times_x _))

pub loop-i-preserved : goal.loop-i-preserved
loop-i-preserved c =
    let a : ℕ = c.args.a.0 in
    let b : ℕ = c.args.b.0 in
    let i : ℕ = c.loop-i.i in (
      c.add-sum.ensures
          ∙ rw (c.where_set.ensures, shr_and_one a (127 - i), c.loop-i.invariant.0, c.loop-i.invariant.1)
          (sym (sum_below_more i (λ j. bit_of a j * iterate times_x j b))),
      c.times_x-power.ensures ∙ rw c.loop-i.invariant.1 (sym (iterate_more times_x i b)),
    )

pub returns : goal.returns
unfolding block_product
returns c =
    let done : c.loop-i.i ≡ 128 = omega arith in
    rw done at c.loop-i.invariant.0

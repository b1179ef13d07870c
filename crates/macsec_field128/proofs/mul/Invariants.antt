use Rattle.{std.{proofs.Common.{◌≡◌, ◌*◌}, specs.Fn.iterate}, macsec_field128.specs.Field.{bit_of, sum_below, times_x}}
use Rattle.macsec_field128.proofs.mul.Given as goal

-- the sum has the first i terms, and the power is the second block multiplied i times by x
abbrev pub invariant-loop-i : goal.invariant-loop-i
invariant-loop-i l = (l.sum.0 ≡ sum_below l.i (λ i. bit_of l.a.0 i * iterate times_x i l.fn.b.0)) × (l.power.0 ≡ iterate times_x l.i l.fn.b.0)

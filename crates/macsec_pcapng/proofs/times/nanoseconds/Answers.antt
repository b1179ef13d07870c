use Rattle.std.proofs.{
  Common.{ℕ, ◌<◌, ◌^◌, ◌-◌, arith, subst, sym, Bool, true, false, if◌then◌else◌, nat_lt, pow_pos},
  Math.Nat.one-le-pow,
}
use Rattle.macsec_pcapng.specs.Times.{units}
use Rattle.macsec_pcapng.proofs.times.nanoseconds.Goals as goal

either : (b : Bool) (x y : ℕ) → 0 < x → 0 < y → 0 < (if b then x else y)
either true x y p q = p
either false x y p q = q

-- a second has a unit
units-pos : (resolution : ℕ) → 0 < units resolution
units-pos resolution = either (nat_lt 127 resolution) (2 ^ (resolution - 128)) (10 ^ resolution) (pow_pos (resolution - 128)) (one-le-pow resolution 10 (omega arith))

pub nonzero_div-result : goal.nonzero_div-result
nonzero_div-result c = subst (λ n. 0 < n) (sym c.in-Some.ensures.1) (units-pos c.args.resolution)

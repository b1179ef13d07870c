-- The mask of 0 is 0, and the mask of 1 is all ones.
use Rattle.std.{
  proofs.{Common.{◌≡◌, ◌+◌, ◌-◌, ◌*◌, ◌%◌, ◌^◌, ◌<◌, ◌∙◌, ℕ, zero, suc, bit_and, arith}, lemmas.Nat.and_mask},
  specs.Int.Bits.and_zero_r,
}
use Rattle.macsec_field128.proofs.where_set.Goals as goal

masked : (bit block : ℕ) → bit < 2 → block < 2 ^ 128 → bit_and block ((0 + (2 ^ 128 - bit)) % 2 ^ 128) ≡ bit * block
masked zero block h lt =
    let none : (0 + (2 ^ 128 - 0)) % 2 ^ 128 ≡ 0 = omega arith in
    rw none (and_zero_r block ∙ omega arith)
masked (suc zero) block h lt =
    let ones : (0 + (2 ^ 128 - 1)) % 2 ^ 128 ≡ 2 ^ 128 - 1 = omega arith in
    rw ones (and_mask block 128 ∙ omega (arith, lt))
masked (suc (suc n)) block h lt = absurd (omega arith)

pub returns : goal.returns
returns c = masked c.args.bit c.args.block c.requires c.ranges.block.fits

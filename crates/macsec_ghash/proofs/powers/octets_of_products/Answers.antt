use Rattle.{
  std.proofs.{Common.{◌≡◌, ℕ, ◌-◌, ◌/◌, ◌%◌, ◌^◌, bit_and, slice_index, ap₂, ◌∙◌, arith}, lemmas.Nat.and_mask},
  macsec_ghash.proofs.ProductOctets.{sum_of_some, sums_of_some},
}
use Rattle.macsec_ghash.proofs.powers.octets_of_products.Goals as goal

pub returns : goal.returns
returns c n lt =
    let octets : ℕ = c.args.octets in
    let t : ℕ → ℕ = λ b. octets / 2 ^ (8 - b) % 2 ^ 8 in
    let one : octets / 2 ^ 8 ≡ t 0 = omega (arith, c.ranges.octets.fits) in
    let two : bit_and (octets / 2 ^ 7) 255 ≡ t 1 = and_mask (octets / 2 ^ 7) 8 in
    let four : bit_and (octets / 2 ^ 6) 255 ≡ t 2 = and_mask (octets / 2 ^ 6) 8 in
    let eight : bit_and (octets / 2 ^ 5) 255 ≡ t 3 = and_mask (octets / 2 ^ 5) 8 in
    ap₂ (λ (p q : ℕ). slice_index (sums_of_some p q (bit_and (octets / 2 ^ 6) 255) (bit_and (octets / 2 ^ 5) 255)) n) one two
    ∙ ap₂ (λ (r s : ℕ). slice_index (sums_of_some (t 0) (t 1) r s) n) four eight
    ∙ sum_of_some t n lt

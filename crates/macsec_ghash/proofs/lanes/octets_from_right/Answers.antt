use Rattle.std.{
  proofs.Common.{◌≡◌, ℕ, ◌+◌, ◌-◌, ◌*◌, ◌/◌, ◌%◌, ◌^◌, bit_and, slice_index, sym, ap, ◌∙◌, arith},
  proofs.lemmas.Nat.and_mask,
  specs.Simd.Lanes.digits_l,
}
use Rattle.macsec_ghash.proofs.{MovedSums.octet_is, Octets.digit_is}
use Rattle.macsec_ghash.proofs.lanes.octets_from_right.Goals as goal

pub returns : goal.returns
returns c i lt =
    let block : ℕ = c.args.block in
    let mask : bit_and block (2 ^ 64 - 1) ≡ block % 2 ^ 64 = and_mask block 64 in
    let words : bit_and block (2 ^ 64 - 1) + 2 ^ 64 * (block / 2 ^ 64 + 0) ≡ block = omega (arith, mask) in
    ap (λ (n : ℕ). slice_index (digits_l 256 16 n) i) words ∙ digit_is 16 i block lt ∙ sym (octet_is i block)

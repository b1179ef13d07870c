-- The number followed by an octet of zeros, shifted right.
use Rattle.std.proofs.{
  Common.{◌≡◌, ℕ, ◌+◌, ◌-◌, ◌*◌, ◌/◌, ◌%◌, ◌^◌, bit_and, sym, ap, ◌∙◌, arith, shr-shr},
  lemmas.Nat.{and_mask, shl-shr},
}
use Rattle.macsec_ghash.proofs.powers.two_octets.Goals as goal

pub returns-then-octet-eq0 : goal.returns-then-octet-eq0
returns-then-octet-eq0 c =
    let n : ℕ = c.args.number in
    let mask : bit_and n 255 ≡ n % 2 ^ 8 = and_mask n 8 in
    let whole : n % 2 ^ 8 * 2 ^ 8 % 2 ^ 16 ≡ n * 2 ^ 8 / 2 ^ (8 * 0) % 2 ^ 16 = omega arith in
    ap (λ (m : ℕ). m * 2 ^ 8 % 2 ^ 16) mask ∙ whole ∙ ap (λ (j : ℕ). n * 2 ^ 8 / 2 ^ (8 * j) % 2 ^ 16) (sym c.if-octet-eq0.true)

pub returns-else-octet-eq0 : goal.returns-else-octet-eq0
returns-else-octet-eq0 c =
    let n : ℕ = c.args.number in
    let j : ℕ = c.args.octet - 1 in
    let e : 8 + 8 * j ≡ 8 * c.args.octet = omega (arith, c.if-octet-eq0.false) in
    and_mask (n / 2 ^ (8 * j)) 16
    ∙ ap (λ (m : ℕ). m / 2 ^ (8 * j) % 2 ^ 16) (sym (shl-shr n 8))
    ∙ ap (λ (m : ℕ). m % 2 ^ 16) (shr-shr (n * 2 ^ 8) 8 (8 * j) ∙ ap (λ (m : ℕ). n * 2 ^ 8 / 2 ^ m) e)

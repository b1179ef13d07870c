-- The packet number of a sent frame, as its receiver recovers it.
use Rattle.{
  std.proofs.{Common.{◌-◌}, lemmas.Bool.and_left},
  macsec_secy.proofs.Names.{◌%◌, ◌&&◌, ◌+◌, ◌<◌, ◌==◌, ◌^◌, ◌≡◌, ◌≤◌, and_right, ap, arith, Bool, false, if◌then◌else◌},
  macsec_secy.proofs.Names.{nat_tests, ne_eqb, not, recovered_number, refl, Some, true, ℕ},
}

abbrev pub last_number : Bool → ℕ
last_number xpn = if xpn then 2 ^ 64 - 1 else 2 ^ 32 - 1

-- an extended packet number that is not below the lowest acceptable one and less than 2^31 above it is recovered
near : (lowest n : ℕ) → 1 ≤ n → n < 2 ^ 64 → lowest ≤ n → n < lowest + 2 ^ 31 → recovered_number true lowest (n % 2 ^ 32) ≡ Some n
near lowest n least most from to = grind (arith, nat_tests, least, most, from, to)

pub recovered : (xpn : Bool) (lowest n : ℕ) → 1 ≤ n → n ≤ last_number xpn → lowest ≤ n → (xpn ≡ true → n < lowest + 2 ^ 31) → recovered_number xpn lowest (n % 2 ^ 32) ≡ Some n
recovered true lowest n least most from to = near lowest n least (omega (arith, most)) from (to refl)
recovered false lowest n least most from to = let it : n % 2 ^ 32 ≡ n = omega (arith, most) in ap Some it

-- the PN field of a sent frame is valid: not 0 unless packet numbers are extended
pub not_bad : (xpn : Bool) (n : ℕ) → 1 ≤ n → n ≤ last_number xpn → (n % 2 ^ 32 == 0 && not xpn) ≡ false
not_bad true n least most = and_right (n % 2 ^ 32 == 0) false refl
not_bad false n least most = and_left (n % 2 ^ 32 == 0) true (ne_eqb (n % 2 ^ 32) 0 (λ zero. omega (arith, zero, least, most)))

-- Further digits never make a number smaller.
use Rattle.std.proofs.{
  Common.{◌≡◌, ℕ, ◌+◌, ◌*◌, ◌≤◌, ◌<◌, List, [], ◌∷◌, drop, get_or, arith, refl, sym, ap, Bool, true, false, ◌&&◌, cond},
  Common.{nat_le, Result, Ok, Err, length, ◌-◌},
  lemmas.{Bool.Decides.nat_tests, List.drop_more},
}
use Rattle.macsec_script_parser.specs.{
  Numerals.{number_after, decimal_value, decimal_in, is_numeral, is_decimal_digit},
  declared.lines.LineFault.{LineFault, TheVariants.Number},
}

pub number-grows : (value : ℕ → ℕ) (n : ℕ) (digits : List ℕ) → n ≤ number_after 10 value n digits
number-grows value n [] = omega arith
number-grows value n (digit ∷ digits) = omega (arith, number-grows value (10 * n + value digit) digits)

chosen : (a b : Bool) (n : ℕ) → b ≡ false → Err Number ≡ cond {A = Result ℕ LineFault} (a && b) (Ok n) (Err Number)
chosen true b n h = ap (λ t. cond {A = Result ℕ LineFault} t (Ok n) (Err Number)) (sym h)
chosen false b n h = refl

-- a number above the highest
pub too_high : (low high : ℕ) (word : List ℕ) → high < decimal_value word → Err Number ≡ decimal_in low high word
too_high low high word h =
    chosen (is_numeral is_decimal_digit 20 word && nat_le low (decimal_value word)) (nat_le (decimal_value word) high)
    (decimal_value word) (grind (arith, nat_tests))

-- a number that is too high after some digits stays so
pub stays_high : (high n i : ℕ) (word : List ℕ) → number_after 10 (λ digit. digit - 48) n (drop i word) ≡ decimal_value word →
    i < length word → high < 10 * n + (get_or word i 0 - 48) → high < decimal_value word
stays_high high n i word h within above =
    let value : ℕ → ℕ = λ digit. digit - 48 in
    let stepped : number_after 10 (λ digit. digit - 48) n (drop i word) ≡ number_after 10 (λ digit. digit - 48) (10 * n + (get_or word i 0 - 48)) (drop (i + 1) word) =
    ap (number_after 10 (λ digit. digit - 48) n) (drop_more word i 0 within) in
    omega (arith, h, stepped, above, number-grows (λ digit. digit - 48) (10 * n + (get_or word i 0 - 48)) (drop (i + 1) word))

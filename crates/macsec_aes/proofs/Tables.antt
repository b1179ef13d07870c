-- The tables of the code, and the products with 02 and 03, computed over all bytes.
use Rattle.std.{
  proofs.Common.{sym, ◌*◌, ◌/◌, ◌%◌, ◌^◌, bit_xor, ◌≡◌, ℕ, ◌<◌, List, map, get_or, refl, ap, ◌∙◌, rules},
  proofs.lemmas.List.FromFn.get_or-map-range_with_len,
  specs.{Fn.iterate, List.range_with_len},
}
use Rattle.macsec_aes.specs.{
  Field.{polynomial_product, remainder, sum_below, byte_product},
  declared.TheConstants.ROUND_CONSTANTS,
}

-- two functions that agree on a table agree below its length
pub same_below : (f g : ℕ → ℕ) (n : ℕ) → map f (range_with_len 0 n) ≡ map g (range_with_len 0 n) → (a : ℕ) → a < n → f a ≡ g a
same_below f g n e a lt =
    sym (get_or-map-range_with_len f 0 n a a 0 lt (search rules))
    ∙ ap (λ (t : List ℕ). get_or t a 0) e ∙ get_or-map-range_with_len g 0 n a a 0 lt (search rules)

pub double_is : (a : ℕ) → a < 256 → bit_xor (a * 2 % 256) (a / 2 ^ 7 * 27) ≡ byte_product 2 a
unfolding byte_product polynomial_product remainder sum_below
double_is = same_below (λ a. bit_xor (a * 2 % 256) (a / 2 ^ 7 * 27)) (byte_product 2) 256 refl

pub triple_is : (a : ℕ) → a < 256 → bit_xor (byte_product 2 a) a ≡ byte_product 3 a
unfolding byte_product polynomial_product remainder sum_below
triple_is = same_below (λ a. bit_xor (byte_product 2 a) a) (byte_product 3) 256 refl

pub ROUND_CONSTANTS_lem : ROUND_CONSTANTS ≡ map (λ j. iterate (byte_product 2) j 1) (range_with_len 0 10)
unfolding byte_product polynomial_product remainder sum_below
ROUND_CONSTANTS_lem = refl

pub ROUND_CONSTANTS_at : (j : ℕ) → j < 10 → get_or ROUND_CONSTANTS j 0 ≡ iterate (byte_product 2) j 1
ROUND_CONSTANTS_at j lt =
    ap (λ (t : List ℕ). get_or t j 0) ROUND_CONSTANTS_lem
    ∙ get_or-map-range_with_len (λ j. iterate (byte_product 2) j 1) 0 10 j j 0 lt (search rules)

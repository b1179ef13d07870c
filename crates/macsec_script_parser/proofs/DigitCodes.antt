-- The code of each octet, computed over all of them.
use Rattle.std.{
  proofs.Common.{◌≡◌, ℕ, ◌<◌, ◌+◌, ◌-◌, ◌*◌, ◌/◌, ◌%◌, bit_and, bit_or, List, map, get_or, refl, sym, ap, ◌∙◌, rules},
  proofs.lemmas.List.FromFn.get_or-map-range_with_len,
  specs.List.range_with_len,
}
use Rattle.macsec_script_parser.specs.Digits.{digit_code}

same_below : (f g : ℕ → ℕ) (n : ℕ) → map f (range_with_len 0 n) ≡ map g (range_with_len 0 n) → (a : ℕ) → a < n → f a ≡ g a
same_below f g n e a lt =
    sym (get_or-map-range_with_len f 0 n a a 0 lt (search rules))
    ∙ ap (λ (t : List ℕ). get_or t a 0) e ∙ get_or-map-range_with_len g 0 n a a 0 lt (search rules)

abbrev pub sum : ℕ → ℕ
sum c = (1 - (bit_and (bit_and c 223 + 191) 255 + 250) / 256) * (bit_and c 223 + 201) + (1 - (bit_and (c + 208) 255 + 246) / 256) * (c + 208)

abbrev pub code : ℕ → ℕ
code c = bit_or (bit_and (sum c) 255) ((1 - (bit_and (bit_and c 223 + 191) 255 + 250) / 256 + (1 - (bit_and (c + 208) 255 + 246) / 256)) * 256 % 65536)

pub sum_is_small : (c : ℕ) → c < 256 → sum c ≡ sum c % 65536
sum_is_small = same_below sum (λ c. sum c % 65536) 256 refl

pub code_is : (c : ℕ) → c < 256 → code c ≡ digit_code c
code_is = same_below code digit_code 256 refl

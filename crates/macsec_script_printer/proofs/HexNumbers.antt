-- Numbers in hex with leading zeros: what `{:016x}` prints, and `{:x}{:016x}` of the two halves of a number.
use Rattle.std.proofs.{
  Common.{◌≡◌, ℕ, suc, zero, ◌+◌, ◌-◌, ◌*◌, ◌/◌, ◌%◌, ◌^◌, ◌≤◌, ◌<◌, List, [], ◌∷◌, ◌++◌, length, replicate, cond},
  Common.{false, arith, refl, sym, ap, ◌∙◌, append_assoc, append-nil, length-append, add-one, ⊎_elim, eq-eqb, ne_eqb},
  Math.{Arith.mod-mul, Nat.{div-div-eq-div-mul, div-one, pow-suc, one-le-pow}},
  lemmas.{Bool.cases_lt, List.replicate_more},
}
use Rattle.std.specs.Fmt.{digits, digits_onto, digit_glyph, padded_integral, format_spec, char_count}
use Rattle.macsec_script_printer.specs.Numbers.{hex, packet_number_text}

-- ---- digit by digit

-- at most k digits of n, followed by `more`
abbrev spell : ℕ → ℕ → List ℕ → List ℕ
spell k n more = digits_onto k 16 false n more

abbrev last_digit : ℕ → ℕ
last_digit n = digit_glyph false (n % 16)

spell_last : (k n : ℕ) (more : List ℕ) → n < 16 → spell (suc k) n more ≡ last_digit n ∷ more
spell_last k n more small = ap (λ t. cond t (last_digit n ∷ more) (spell k (n / 16) (last_digit n ∷ more))) (eq-eqb (n / 16) 0 (omega arith))

spell_next : (k n : ℕ) (more : List ℕ) → 16 ≤ n → spell (suc k) n more ≡ spell k (n / 16) (last_digit n ∷ more)
spell_next k n more large = ap (λ t. cond t (last_digit n ∷ more) (spell k (n / 16) (last_digit n ∷ more))) (ne_eqb (n / 16) 0 (λ e. omega arith))

spell-append : (k n : ℕ) (more : List ℕ) → spell k n more ≡ spell k n [] ++ more
spell-append zero n more = refl
spell-append (suc k) n more = ⊎_elim
    (λ l. spell_last k n more l ∙ ap (λ x. x ++ more) (sym (spell_last k n [] l)))
    (λ l. spell_next k n more l ∙ spell-append k (n / 16) (last_digit n ∷ more) ∙ sym (append_assoc (spell k (n / 16) []) (last_digit n ∷ []) more)
    ∙ ap (λ x. x ++ more) (sym (spell_next k n [] l ∙ spell-append k (n / 16) (last_digit n ∷ []))))
    (cases_lt n 16)

-- the bound on the number of digits does not matter once it is large enough
spell_enough : (j k n : ℕ) (more : List ℕ) → n < 16 ^ suc j → n < 16 ^ suc k → spell (suc j) n more ≡ spell (suc k) n more
spell_enough zero k n more p q = spell_last zero n more (omega arith) ∙ sym (spell_last k n more (omega arith))
spell_enough (suc j) zero n more p q = spell_last (suc j) n more (omega arith) ∙ sym (spell_last zero n more (omega arith))
spell_enough (suc j) (suc k) n more p q = ⊎_elim
    (λ l. spell_last (suc j) n more l ∙ sym (spell_last (suc k) n more l))
    (λ l. spell_next (suc j) n more l ∙ spell_enough j k (n / 16) (last_digit n ∷ more) (omega arith) (omega arith) ∙ sym (spell_next (suc k) n more l))
    (cases_lt n 16)

spelled : (n : ℕ) → spell 64 n [] ≡ hex n
unfolding digits
spelled n = refl

hex_step : (n : ℕ) → 16 ≤ n → n < 16 ^ 64 → hex n ≡ hex (n / 16) ++ (last_digit n ∷ [])
hex_step n large small =
    sym (spelled n) ∙ spell_next 63 n [] large ∙ spell_enough 62 63 (n / 16) (last_digit n ∷ []) (omega arith) (omega arith)
    ∙ spell-append 64 (n / 16) (last_digit n ∷ []) ∙ ap (λ x. x ++ (last_digit n ∷ [])) (spelled (n / 16))

hex_digit : (n : ℕ) → n < 16 → hex n ≡ last_digit n ∷ []
hex_digit n small = sym (spelled n) ∙ spell_last 63 n [] small

-- ---- a fixed number of digits

-- the last k digits
abbrev last_digits : ℕ → ℕ → List ℕ
last_digits zero n = []
last_digits (suc k) n = last_digits k (n / 16) ++ (last_digit n ∷ [])

length-last_digits : (k n : ℕ) → length (last_digits k n) ≡ k
length-last_digits zero n = refl
length-last_digits (suc k) n = length-append (last_digits k (n / 16)) (last_digit n ∷ []) ∙ omega (arith, length-last_digits k (n / 16))

-- they depend on the number modulo 16^k only
last_digits-mod : (k n : ℕ) → last_digits k (n % 16 ^ k) ≡ last_digits k n
last_digits-mod zero n = refl
last_digits-mod (suc k) n =
    let parts : n % 16 ^ suc k ≡ (n / 16 % 16 ^ k) * 16 + n % 16 = ap (λ p. n % p) (pow-suc 16 k) ∙ mod-mul n (omega (arith, one-le-pow k 16 (omega arith))) (omega arith) in
    let front : n % 16 ^ suc k / 16 ≡ n / 16 % 16 ^ k = omega arith in
    let last : n % 16 ^ suc k % 16 ≡ n % 16 = omega arith in
    ap (λ m. last_digits k m ++ (last_digit (n % 16 ^ suc k) ∷ [])) front
    ∙ ap (λ m. last_digits k (n / 16 % 16 ^ k) ++ (digit_glyph false m ∷ [])) last
    ∙ ap (λ front. front ++ (last_digit n ∷ [])) (last_digits-mod k (n / 16))

-- the digits of a number, with leading zeros up to k digits
abbrev filled : ℕ → ℕ → List ℕ
filled k n = replicate (k - length (hex n)) 48 ++ hex n

filled_digit : (k n : ℕ) → n < 16 → filled (suc k) n ≡ replicate k 48 ++ (last_digit n ∷ [])
filled_digit k n small =
    let zeros : suc k - 1 ≡ k = omega arith in
    ap (λ text. replicate (suc k - length text) 48 ++ text) (hex_digit n small) ∙ ap (λ j. replicate j 48 ++ (last_digit n ∷ [])) zeros

filled_next : (k n : ℕ) → 16 ≤ n → n < 16 ^ 64 → filled (suc k) n ≡ filled k (n / 16) ++ (last_digit n ∷ [])
filled_next k n large small =
    let front = hex (n / 16) in
    let more : suc k - length (front ++ (last_digit n ∷ [])) ≡ k - length front = omega (arith, length-append front (last_digit n ∷ [])) in
    ap (λ text. replicate (suc k - length text) 48 ++ text) (hex_step n large small)
    ∙ ap (λ zeros. replicate zeros 48 ++ (front ++ (last_digit n ∷ []))) more
    ∙ sym (append_assoc (replicate (k - length front) 48) front (last_digit n ∷ []))

none_fit : (k : ℕ) → 0 < 16 ^ suc k
none_fit k = omega (arith, one-le-pow (suc k) 16 (omega arith))

-- a number of at most k + 1 digits
filled_is : (k n : ℕ) → n < 16 ^ suc k → n < 16 ^ 64 → filled (suc k) n ≡ last_digits (suc k) n
filled_is zero n fits small = filled_digit zero n (omega arith)
filled_is (suc k) n fits small = ⊎_elim
    (λ l.
    let none : n / 16 ≡ 0 = omega arith in
    let zeros : replicate (suc k) 48 ≡ last_digits (suc k) (n / 16) =
    ap (λ j. replicate j 48) (sym (add-one k)) ∙ sym (replicate_more k 48) ∙ sym (filled_digit k 0 (omega arith))
    ∙ filled_is k 0 (none_fit k) (omega arith) ∙ ap (last_digits (suc k)) (sym none) in
    filled_digit (suc k) n l ∙ ap (λ front. front ++ (last_digit n ∷ [])) zeros)
    (λ l. filled_next (suc k) n l small ∙ ap (λ front. front ++ (last_digit n ∷ [])) (filled_is k (n / 16) (omega arith) (omega arith)))
    (cases_lt n 16)

-- a number of more than k digits
hex_split : (k n : ℕ) → 16 ^ k ≤ n → n < 16 ^ 64 → hex n ≡ hex (n / 16 ^ k) ++ last_digits k n
hex_split zero n large small = ap hex (sym (div-one n)) ∙ sym (append-nil (hex (n / 1)))
hex_split (suc k) n large small =
    let power : 16 ^ suc k ≡ 16 ^ k * 16 = pow-suc 16 k in
    let some : 1 ≤ 16 ^ k = one-le-pow k 16 (omega arith) in
    let front : n / 16 / 16 ^ k ≡ n / 16 ^ suc k = div-div-eq-div-mul n 16 (16 ^ k) ∙ ap (λ p. n / p) (omega (arith, power)) in
    hex_step n (omega (arith, power, some)) small
    ∙ ap (λ text. text ++ (last_digit n ∷ [])) (hex_split k (n / 16) (omega (arith, power)) (omega arith))
    ∙ append_assoc (hex (n / 16 / 16 ^ k)) (last_digits k (n / 16)) (last_digit n ∷ [])
    ∙ ap (λ m. hex m ++ last_digits (suc k) n) front

-- ---- what `write!` prints

-- what `{:016x}` prints
pub sixteen : (n : ℕ) → padded_integral (format_spec 32 0 4 16 (2 ^ 64 - 1)) false [] (digits 16 false n) ≡ packet_number_text n
unfolding padded_integral char_count
sixteen n =
    let zeros : 16 - length (hex n) - 0 - 0 ≡ 16 - length (hex n) = omega arith in
    ap (λ j. replicate j 48 ++ (hex n ++ [])) zeros ∙ ap (λ text. replicate (16 - length (hex n)) 48 ++ text) (append-nil (hex n))

-- the upper half of a number and its lower 64 bits
pub halves : (n : ℕ) → 2 ^ 64 ≤ n → n < 2 ^ 128 → hex (n / 2 ^ 64) ++ packet_number_text (n % 2 ^ 64) ≡ packet_number_text n
halves n large small =
    let low = n % 2 ^ 64 in
    let split : hex n ≡ hex (n / 2 ^ 64) ++ last_digits 16 n = hex_split 16 n (omega arith) (omega arith) in
    let none : 16 - length (hex n) ≡ 0 =
    let long = ap length split ∙ length-append (hex (n / 2 ^ 64)) (last_digits 16 n) in omega (arith, long, length-last_digits 16 n) in
    let same : packet_number_text low ≡ last_digits 16 n = filled_is 15 low (omega arith) (omega arith) ∙ last_digits-mod 16 n in
    ap (λ text. hex (n / 2 ^ 64) ++ text) same ∙ sym split ∙ ap (λ zeros. replicate zeros 48 ++ hex n) (sym none)

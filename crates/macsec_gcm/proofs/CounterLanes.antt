-- The counter of a block in a vector of octets.
use Rattle.std.{
  proofs.Common.{◌≡◌, ℕ, zero, suc, ◌+◌, ◌-◌, ◌*◌, ◌/◌, ◌%◌, ◌^◌, ◌<◌, List, [], ◌∷◌, length, get_or, drop},
  proofs.Common.{refl, subst, ap, ap₂, ◌∙◌, arith, get_or-drop},
  proofs.lemmas.Simd.{Each1-from_get_or, Each1-get_or, get_or-chunk, get_or_narrower, get_or_wider, length-chunk},
  specs.Int.{w32, from_le_bytes, to_be_bytes},
  specs.Simd.Lanes.{Each1, chunk, digits_l, number_l, zip2},
}

pub below_four : (P : ℕ → Type 0) → P 0 → P 1 → P 2 → P 3 → (k : ℕ) → k < 4 → P k
below_four P p0 p1 p2 p3 zero h = p0
below_four P p0 p1 p2 p3 (suc zero) h = p1
below_four P p0 p1 p2 p3 (suc (suc zero)) h = p2
below_four P p0 p1 p2 p3 (suc (suc (suc zero))) h = p3
below_four P p0 p1 p2 p3 (suc (suc (suc (suc n)))) h = absurd (omega arith)

-- the number of four octets, the lowest first
abbrev number_of : ℕ → ℕ → ℕ → ℕ → ℕ
number_of a b c d = a + 256 * b + 65536 * c + 16777216 * d

number_of_list : (xs : List ℕ) → length xs ≡ 4 → number_l 256 xs ≡ number_of (get_or xs 0 0) (get_or xs 1 0)
    (get_or xs 2 0) (get_or xs 3 0)
number_of_list [] e = absurd (omega (arith, e))
number_of_list (a ∷ []) e = absurd (omega (arith, e))
number_of_list (a ∷ b ∷ []) e = absurd (omega (arith, e))
number_of_list (a ∷ b ∷ c ∷ []) e = absurd (omega (arith, e))
number_of_list (a ∷ b ∷ c ∷ d ∷ []) e = omega arith
number_of_list (a ∷ b ∷ c ∷ d ∷ f ∷ xs) e = absurd (omega (arith, e))

-- the octets of their number are the four octets
octets_of_number : (a b c d : ℕ) → a < 256 → b < 256 → c < 256 → d < 256
    → (j : ℕ) → j < 4 → (number_of a b c d + 0) % 2 ^ 32 / 256 ^ j % 256 ≡ get_or (a ∷ b ∷ c ∷ d ∷ []) j 0
octets_of_number a b c d la lb lc ld =
    below_four (λ j. (number_of a b c d + 0) % 2 ^ 32 / 256 ^ j % 256 ≡ get_or (a ∷ b ∷ c ∷ d ∷ []) j 0)
    (omega arith) (omega arith) (omega arith) (omega arith)

-- word l of the lanes
word_of : (a : List ℕ) (l : ℕ) → length a ≡ 16 → Each1 (λ x. x < 256) a → l < 4
    → get_or (digits_l (2 ^ 32) 4 (number_l 256 a)) l 0
    ≡ number_of (get_or a (4 * l + 0) 0) (get_or a (4 * l + 1) 0) (get_or a (4 * l + 2) 0) (get_or a (4 * l + 3) 0)
word_of a l long small lt =
    let octets : List ℕ = chunk (4 * l) 4 a in
    let four : length octets ≡ 4 = length-chunk (4 * l) 4 a (omega (arith, long)) in
    get_or_wider 256 4 (2 ^ 32) 4 a l refl small lt
    ∙ number_of_list octets four
    ∙ rw (
      get_or-chunk (4 * l) 4 a 0 0 (omega arith),
      get_or-chunk (4 * l) 4 a 1 0 (omega arith),
      get_or-chunk
          (4 * l) 4 a 2 0 (omega arith),
      get_or-chunk (4 * l) 4 a 3 0 (omega arith),
    ) refl

-- the four words, with one added to the last
abbrev more : List ℕ → List ℕ
more a = zip2 (λ x y. (x + y) % 2 ^ 32) (digits_l (2 ^ 32) 4 (number_l 256 a)) (0 ∷ 0 ∷ 0 ∷ 1 ∷ [])

more_at : (a : List ℕ) (l : ℕ) → l < 4
    → get_or (more a) l 0 ≡ (get_or (digits_l (2 ^ 32) 4 (number_l 256 a)) l 0 + get_or
    (0 ∷ 0 ∷ 0 ∷ 1 ∷ []) l 0) % 2 ^ 32
more_at a =
    below_four (λ l. get_or (more a) l 0 ≡ (get_or (digits_l (2 ^ 32) 4 (number_l 256 a)) l 0 + get_or
    (0 ∷ 0 ∷ 0 ∷ 1 ∷ []) l 0) % 2 ^ 32)
    refl refl refl refl

more_small : (a : List ℕ) → Each1 (λ x. x < 2 ^ 32) (more a)
more_small a = Each1-from_get_or (λ x. x < 2 ^ 32) (more a) 0 (λ l lt. omega (arith, more_at a l lt))

-- octet j of word l
octet_of : (a : List ℕ) (l j : ℕ) → l < 4 → j < 4
    → get_or (digits_l 256 16 (number_l (2 ^ 32) (more a))) (4 * l + j) 0 ≡ get_or (more a) l 0 / 256 ^ j % 256
octet_of a l j l4 j4 = get_or_narrower (2 ^ 32) 4 256 16 (more a) l j refl (more_small a) j4 (omega arith)

nothing_added : (l : ℕ) → l < 3 → get_or {A = ℕ} (0 ∷ 0 ∷ 0 ∷ 1 ∷ []) l 0 ≡ 0
nothing_added zero lt = refl
nothing_added (suc zero) lt = refl
nothing_added (suc (suc zero)) lt = refl
nothing_added (suc (suc (suc l))) lt = absurd (omega arith)

-- the octets of a word that nothing is added to
octet_kept : (a : List ℕ) (l j : ℕ) → length a ≡ 16 → Each1 (λ x. x < 256) a → l < 3 → j < 4
    → get_or (digits_l 256 16 (number_l (2 ^ 32) (more a))) (4 * l + j) 0 ≡ get_or a (4 * l + j) 0
octet_kept a l j long small l3 j4 =
    let w : ℕ = get_or a (4 * l + 0) 0 in
    let x : ℕ = get_or a (4 * l + 1) 0 in
    let y : ℕ = get_or a (4 * l + 2) 0 in
    let z : ℕ = get_or a (4 * l + 3) 0 in
    let at : (i : ℕ) → i < 16 → get_or a i 0 < 256 = λ i lt. Each1-get_or (λ x. x < 256) a i 0 (omega (
      arith,
      long,
    )) small in
    let word : get_or (more a) l 0 ≡ (number_of w x y z + 0) % 2 ^ 32 =
    more_at a l (omega arith) ∙ ap₂ (λ (m n : ℕ). (m + n) % 2 ^ 32) (word_of a l long small (omega arith))
    (nothing_added l l3) in
    octet_of a l j (omega arith) j4
    ∙ ap (λ (n : ℕ). n / 256 ^ j % 256) word
    ∙ octets_of_number w x y z (at (4 * l + 0) (omega arith)) (at (4 * l + 1) (omega arith)) (at (4 * l + 2)
    (omega arith)) (at (4 * l + 3) (omega arith)) j j4
    ∙ below_four (λ j. get_or (w ∷ x ∷ y ∷ z ∷ []) j 0 ≡ get_or a (4 * l + j) 0) refl refl refl refl j j4

pub first_kept : (a : List ℕ) (j : ℕ) → length a ≡ 16 → Each1 (λ x. x < 256) a → j < 12
    → get_or (digits_l 256 16 (number_l (2 ^ 32) (more a))) j 0 ≡ get_or a j 0
first_kept a j long small lt =
    let place : 4 * (j / 4) + j % 4 ≡ j = omega arith in
    let kept = octet_kept a (j / 4) (j % 4) long small (omega arith) (omega arith) in
    rw place at kept

pub last_counts : (a : List ℕ) (j : ℕ) → length a ≡ 16 → Each1 (λ x. x < 256) a → j < 4
    → get_or (digits_l 256 16 (number_l (2 ^ 32) (more a))) (12 + j) 0 ≡ (from_le_bytes w32
    (drop 12 a) + 1) % 2 ^ 32 / 256 ^ j % 256
last_counts a j long small lt =
    let number : number_of (get_or a 12 0) (get_or a 13 0) (get_or a 14 0) (get_or a 15 0) ≡ from_le_bytes w32
    (drop 12 a) =
    omega (arith, get_or-drop 12 a 0 0, get_or-drop 12 a 1 0, get_or-drop 12 a 2 0, get_or-drop 12 a 3 0) in
    let word : get_or (digits_l (2 ^ 32) 4 (number_l 256 a)) 3 0 ≡ from_le_bytes w32 (drop 12 a) =
    word_of a 3 long small (omega arith) ∙ number in
    octet_of a 3 j (omega arith) lt
    ∙ ap (λ (n : ℕ). n / 256 ^ j % 256) (more_at a 3 (omega arith) ∙ ap (λ (n : ℕ). (n + 1) % 2 ^ 32) word)

-- the octets of a number, the highest first
pub highest_first : (n : ℕ) (j : ℕ) → j < 4 → n / 256 ^ (3 - j) % 256 ≡ get_or (to_be_bytes w32 n) j 0
highest_first n = below_four (λ j. n / 256 ^ (3 - j) % 256 ≡ get_or (to_be_bytes w32 n) j 0) (omega arith)
    (omega arith) (omega arith) (omega arith)

pub below_twelve : (P : ℕ → Type 0) → P 0 → P 1 → P 2 → P 3 → P 4 → P 5 → P 6 → P 7 → P 8 → P 9 → P 10 → P 11 →
    (k : ℕ) → k < 12 → P k
below_twelve P p0 p1 p2 p3 p4 p5 p6 p7 p8 p9 p10 p11 k h =
    let place : 4 * (k / 4) + k % 4 ≡ k = omega arith in
    subst P place (below_four (λ q. q < 3 → (r : ℕ) → r < 4 → P (4 * q + r))
    (λ _. below_four _ p0 p1 p2 p3) (λ _. below_four _ p4 p5 p6 p7) (λ _. below_four _ p8 p9 p10 p11)
    (λ none r lr. absurd (omega (arith, none)))
    (k / 4) (omega arith) (omega arith) (k % 4) (omega arith))

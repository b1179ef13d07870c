-- A polynomial has fewer roots than coefficients.
use Rattle.std.{
  proofs.Common.{◌≡◌, ◌≢◌, inl, inr, ℕ, suc, ◌^◌, ◌<◌, List, [], ◌∷◌, length, bit_xor, refl, sym, ap, ap₂, ◌∙◌, arith},
  proofs.lemmas.{List.Elements.{All-from_recursion, recursion_from_All}, Nat.{xor_comm, xor_lt}},
  specs.{Int.Bits.{xor_assoc, xor_self, xor_zero_l, xor_zero_r}, List.{AllPairs, AllByRecursion}},
}
use Rattle.macsec_field128.{
  proofs.{Additive.xor_swap, ProductLaws.{adds_in_first, adds_in_second, associates, product_is_block}},
  specs.Field.block_product,
}
use Rattle.macsec_hash_keys.{
  proofs.{Inverses.{no_zero_divisors, product_of_zero}, Products.commutes},
  specs.Polynomials.{FewRoots, value_at},
}

-- numbers whose sum is 0
pub no_difference : (a b : ℕ) → bit_xor a b ≡ 0 → a ≡ b
no_difference a b none =
    sym (xor_zero_r a) ∙ ap (bit_xor a) (sym (xor_self b)) ∙ sym (xor_assoc a b b) ∙ ap (λ n. bit_xor n b) none
    ∙ xor_zero_l b

-- ---- lists by recursion

abbrev pub AreBlocks : List ℕ → Type 0
AreBlocks xs = AllByRecursion (λ x. x < 2 ^ 128) xs

abbrev pub AreZero : List ℕ → Type 0
AreZero xs = AllByRecursion (λ x. x ≡ 0) xs

abbrev pub Differ : List ℕ → Type 0
Differ [] = Unit {0}
Differ (x ∷ xs) = AllByRecursion (λ y. x ≢ y) xs × Differ xs

pub differ_from_pairs : (xs : List ℕ) → AllPairs (λ x y. x ≢ y) xs → Differ xs
differ_from_pairs [] h = tt
differ_from_pairs (x ∷ xs) h = (
  recursion_from_All (λ y. x ≢ y) xs (λ k d lt. h 0 (suc k) d (omega arith) (omega arith)),
  differ_from_pairs xs (λ i j d lt within. h (suc i) (suc j) d (omega arith) (omega arith)),
)

-- ---- the quotient by h - r, for a root r

pub value_lt : (h : ℕ) (cs : List ℕ) → h < 2 ^ 128 → AreBlocks cs → value_at h cs < 2 ^ 128
unfolding value_at
value_lt h [] lh blocks = omega arith
value_lt h (c ∷ cs) lh blocks = xor_lt 128 c (block_product (value_at h cs) h) blocks.0
    (product_is_block (value_at h cs) h lh)

-- the values at r of the polynomial without its lowest coefficients: of each rest of the list
values_of_rests : ℕ → List ℕ → List ℕ
values_of_rests r [] = []
values_of_rests r (c ∷ cs) = value_at r (c ∷ cs) ∷ values_of_rests r cs

length-values_of_rests : (r : ℕ) (cs : List ℕ) → length (values_of_rests r cs) ≡ length cs
unfolding values_of_rests
length-values_of_rests r [] = refl
length-values_of_rests r (c ∷ cs) = ap suc (length-values_of_rests r cs)

values_of_rests_lt : (r : ℕ) (cs : List ℕ) → r < 2 ^ 128 → AreBlocks cs → AreBlocks (values_of_rests r cs)
unfolding values_of_rests
values_of_rests_lt r [] lr blocks = tt
values_of_rests_lt r (c ∷ cs) lr blocks = (value_lt r _ lr blocks, values_of_rests_lt r cs lr blocks.1)

same_inside : (c p q : ℕ) → bit_xor (bit_xor c p) (bit_xor c q) ≡ bit_xor p q
same_inside c p q = xor_swap c p c q ∙ ap (λ n. bit_xor n (bit_xor p q)) (xor_self c) ∙ xor_zero_l (bit_xor p q)

-- u s + v r is (u + v) s + v (s + r)
split : (u v s r : ℕ) → bit_xor (block_product u s) (block_product v r)
    ≡ bit_xor (block_product (bit_xor u v) s) (block_product v (bit_xor s r))
split u v s r =
    sym (ap₂ bit_xor (adds_in_first u v s) (adds_in_second v s r)
    ∙ (xor_assoc (block_product u s) (block_product v s) (bit_xor (block_product v s) (block_product v r))
    ∙ ap (bit_xor (block_product u s))
    (sym (xor_assoc (block_product v s) (block_product v s) (block_product v r))
    ∙ ap (λ n. bit_xor n (block_product v r)) (xor_self (block_product v s)) ∙ xor_zero_l (block_product v r))))

-- the sum of the values at s and r is the value of the quotient at s, times s + r
divided : (r s c : ℕ) (cs : List ℕ) → r < 2 ^ 128 → s < 2 ^ 128 → AreBlocks cs
    → bit_xor (value_at s (c ∷ cs)) (value_at r (c ∷ cs))
    ≡ block_product (value_at s (values_of_rests r cs)) (bit_xor s r)
unfolding value_at values_of_rests
divided r s c [] lr ls blocks =
    same_inside c (block_product 0 s) (block_product 0 r)
    ∙ ap₂ bit_xor (product_of_zero s) (product_of_zero r)
    ∙ sym (product_of_zero (bit_xor s r))
divided r s c (d ∷ cs) lr ls blocks =
    let u = value_at s (d ∷ cs) in
    let v = value_at r (d ∷ cs) in
    let q = value_at s (values_of_rests r cs) in
    let lsr = xor_lt 128 s r ls lr in
    same_inside c (block_product u s) (block_product v r)
    ∙ split u v s r
    ∙ ap (λ n. bit_xor n (block_product v (bit_xor s r))) (ap (λ n. block_product n s) (divided r s d cs lr ls blocks.1)
    ∙ associates q (bit_xor s r) s lsr ls
    ∙ ap (block_product q) (commutes (bit_xor s r) s lsr ls)
    ∙ sym (associates q s (bit_xor s r) ls lsr))
    ∙ xor_comm (block_product (block_product q s) (bit_xor s r)) (block_product v (bit_xor s r))
    ∙ sym (adds_in_first v (block_product q s) (bit_xor s r))

-- another root is a root of the quotient
other_root : (r s c : ℕ) (cs : List ℕ) → r < 2 ^ 128 → s < 2 ^ 128 → AreBlocks cs → r ≢ s
    → value_at r (c ∷ cs) ≡ 0 → value_at s (c ∷ cs) ≡ 0 → value_at s (values_of_rests r cs) ≡ 0
other_root r s c cs lr ls blocks apart at_r at_s =
    elim (no_zero_divisors (value_at s _) (bit_xor s r)
    (value_lt s _ ls (values_of_rests_lt r cs lr blocks)) (xor_lt 128 s r ls lr)
    (sym (divided r s c cs lr ls blocks) ∙ ap₂ bit_xor at_s at_r)) [
      | inl none ↦ none
      | inr same ↦ absurd (apart (sym (no_difference s r same)))
    ]

-- if all values of the rests are 0, so are the coefficients
value_of_zeros : (h : ℕ) (cs : List ℕ) → AreZero cs → value_at h cs ≡ 0
unfolding value_at
value_of_zeros h [] zeros = refl
value_of_zeros h (c ∷ cs) zeros =
    ap₂ bit_xor zeros.0 (ap (λ n. block_product n h) (value_of_zeros h cs zeros.1) ∙ product_of_zero h)

first_is_zero : (r c : ℕ) (cs : List ℕ) → value_at r (c ∷ cs) ≡ 0 → AreZero cs → c ≡ 0
unfolding value_at
first_is_zero r c cs root zeros =
    sym (xor_zero_r c)
    ∙ ap (bit_xor c) (sym (ap (λ n. block_product n r) (value_of_zeros r cs zeros) ∙ product_of_zero r))
    ∙ root

zeros_from_rests : (r : ℕ) (cs : List ℕ) → AreZero (values_of_rests r cs) → AreZero cs
unfolding values_of_rests
zeros_from_rests r [] zeros = tt
zeros_from_rests r (c ∷ cs) zeros =
    let rest = zeros_from_rests r cs zeros.1 in
    (first_is_zero r c cs zeros.0 rest, rest)

-- ---- counting

other_roots : (r c : ℕ) (cs hs : List ℕ) → r < 2 ^ 128 → AreBlocks cs → value_at r (c ∷ cs) ≡ 0
    → AreBlocks hs → AllByRecursion (λ h. r ≢ h) hs → AllByRecursion (λ h. value_at h (c ∷ cs) ≡ 0) hs
    → AllByRecursion (λ h. value_at h (values_of_rests r cs) ≡ 0) hs
other_roots r c cs [] lr blocks root lhs apart roots = tt
other_roots r c cs (h ∷ hs) lr blocks root lhs apart roots = (
  other_root r h c cs lr lhs.0 blocks apart.0 root roots.0,
  other_roots r c cs hs lr blocks root lhs.1 apart.1 roots.1,
)

count_roots : (hs cs : List ℕ) → AreBlocks cs → (AreZero cs → ⊥) → AreBlocks hs → Differ hs
    → AllByRecursion (λ h. value_at h cs ≡ 0) hs → length hs < length cs
count_roots hs [] blocks some lhs apart roots = absurd (some tt)
count_roots [] (c ∷ cs) blocks some lhs apart roots = omega arith
count_roots (r ∷ hs) (c ∷ cs) blocks some lhs apart roots =
    let fewer = count_roots hs _ (values_of_rests_lt r cs lhs.0 blocks.1)
    (λ zeros. some (first_is_zero r c cs roots.0 (zeros_from_rests r cs zeros), zeros_from_rests r cs zeros))
    lhs.1 apart.1 (other_roots r c cs hs lhs.0 blocks.1 roots.0 lhs.1 apart.0 roots.1) in
    omega (arith, fewer, length-values_of_rests r cs)

pub few_roots : FewRoots
few_roots cs hs blocks some keys roots =
    count_roots hs cs (recursion_from_All (λ x. x < 2 ^ 128) cs blocks)
    (λ zeros. some (All-from_recursion (λ x. x ≡ 0) cs zeros))
    (recursion_from_All (λ x. x < 2 ^ 128) hs keys.blocks) (differ_from_pairs hs keys.distinct)
    (recursion_from_All (λ h. value_at h cs ≡ 0) hs roots)

-- Sums of products with the powers of a key, from the eighth power down.
use Rattle.std.proofs.{
  Common.{◌≡◌, ℕ, zero, suc, ◌-◌, ◌^◌, ◌<◌, ◌≤◌, List, drop, set, take, [], ◌∷◌, ◌++◌, length, slice_index, replicate},
  Common.{bit_xor, refl, sym, ap, ap₂, ◌∙◌, arith, append-nil, length-drop},
  lemmas.{Grind.fold-append, List.{get_or_at, length-replicate, nil_from_length, set_at, take-replicate}, Nat.xor_comm},
}
use Rattle.std.specs.Int.Bits.{xor_zero_l, xor_self}
use Rattle.macsec_field128.specs.{Field.{block_product, sum_below}, Laws.{AddsInFirst, Associates, ProductIsBlock}}
use Rattle.macsec_ghash.{
  proofs.{Steps.by_powers, Sums.{same_sums, sum_first, sum_none}},
  specs.{Ghash.{hash_after, hash_next}, Powers.{power, weighted}},
}
use borrow.Rule.Slice.PartMut.{put_mid}

-- the product of block j of n and its power
term : ℕ → List ℕ → ℕ → ℕ → ℕ
term h xs n j = block_product (slice_index xs j) (power h (n - 1 - j))

term_first : (h x : ℕ) (xs : List ℕ) → term h (x ∷ xs) (suc (length xs)) 0 ≡ block_product x (power h (length xs))
unfolding term
term_first h x xs =
    let same : suc (length xs) - 1 - 0 ≡ length xs = omega arith in
    ap (λ (m : ℕ). block_product x (power h m)) same

term_other : (h x : ℕ) (xs : List ℕ) (j : ℕ) → j < length xs → term h (x ∷ xs) (suc (length xs)) (suc j) ≡ term h xs (length xs) j
unfolding term
term_other h x xs j lt =
    let same : suc (length xs) - 1 - suc j ≡ length xs - 1 - j = omega arith in
    ap (λ (m : ℕ). block_product (slice_index xs j) (power h m)) same

weighted_is_sum : (h : ℕ) (xs : List ℕ) → weighted h xs ≡ sum_below (length xs) (term h xs (length xs))
unfolding weighted
weighted_is_sum h [] = sym (sum_none (term h [] 0))
weighted_is_sum h (x ∷ xs) =
    ap₂ bit_xor (sym (term_first h x xs))
    (weighted_is_sum h xs
    ∙ sym (same_sums (length xs) (λ j. term h (x ∷ xs) (suc (length xs)) (suc j)) (term h xs (length xs)) (term_other h x xs)))
    ∙ sym (sum_first (length xs) (term h (x ∷ xs) (suc (length xs))))

-- eight products with the powers
pub eight_weighted : (h : ℕ) (xs : List ℕ) → length xs ≡ 8
    → sum_below 8 (λ j. block_product (slice_index xs j) (power h (7 - j))) ≡ weighted h xs
unfolding term
eight_weighted h xs long = sym (rw long at (weighted_is_sum h xs))

-- zeros before the blocks change nothing
pub weighted_zeros : AddsInFirst → (h n : ℕ) (xs : List ℕ) → weighted h (replicate n 0 ++ xs) ≡ weighted h xs
unfolding weighted
weighted_zeros adds h zero xs = refl
weighted_zeros adds h (suc n) xs =
    let p : ℕ = power h (length (replicate n 0 ++ xs)) in
    let none : block_product 0 p ≡ 0 = adds 0 0 p ∙ xor_self (block_product 0 p) in
    rw none (xor_zero_l (weighted h (replicate n 0 ++ xs)) ∙ weighted_zeros adds h n xs)

-- blocks after zeros, with the sum added to the first block
set_first : (n x y : ℕ) (xs : List ℕ) → set (replicate n 0 ++ x ∷ xs) n (bit_xor (slice_index (replicate n 0 ++ x ∷ xs) n) y) ≡ replicate n 0 ++ bit_xor y x ∷ xs
set_first n x y xs =
    let first : slice_index (replicate n 0 ++ x ∷ xs) n ≡ x = get_or_at (replicate n 0) x xs 0 n (length-replicate n 0) in
    ap (λ (z : ℕ). set (replicate n 0 ++ x ∷ xs) n (bit_xor z y)) first
    ∙ set_at (replicate n 0) x xs (bit_xor x y) n (length-replicate n 0)
    ∙ ap (λ (z : ℕ). replicate n 0 ++ z ∷ xs) (xor_comm x y)

-- blocks at the end of eight, after zeros
placed : (n : ℕ) (xs : List ℕ) → n ≤ 8 → put_mid n (8 - n) (replicate 8 0) xs ≡ replicate n 0 ++ xs
placed n xs le =
    let zeros : List ℕ = replicate 8 0 in
    let none : drop (8 - n) (drop n zeros) ≡ [] =
    nil_from_length (drop (8 - n) (drop n zeros)) (omega (arith, length-drop (8 - n) (drop n zeros), length-drop n zeros)) in
    ap (λ (rest : List ℕ). take n (replicate 8 0) ++ (xs ++ rest)) none
    ∙ ap (λ (rest : List ℕ). take n (replicate 8 0) ++ rest) (append-nil xs)
    ∙ ap (λ (zeros : List ℕ). zeros ++ xs) (take-replicate n 8 0 le)

-- eight blocks that end with xs, with the sum added to the first of xs
unfoldable pub tail : ℕ → List ℕ → ℕ → List ℕ
tail n xs y = set (put_mid n (8 - n) (replicate 8 0) xs) n (bit_xor (slice_index (put_mid n (8 - n) (replicate 8 0) xs) n) y)

pub weighted-tail : AddsInFirst → Associates → ProductIsBlock → (h y : ℕ) → h < 2 ^ 128 → (n : ℕ) (xs : List ℕ) → 0 < length xs → n ≤ 8
    → weighted h (tail n xs y) ≡ hash_after h y xs
unfolding tail
weighted-tail adds same block h y lt n [] some le = absurd (omega arith)
weighted-tail adds same block h y lt n (x ∷ xs) some le =
    ap (λ (p : List ℕ). weighted h (set p n (bit_xor (slice_index p n) y))) (placed n (x ∷ xs) le)
    ∙ ap (weighted h) (set_first n x y xs)
    ∙ weighted_zeros adds h n (bit_xor y x ∷ xs)
    ∙ sym (by_powers adds same block h lt y x xs)

-- one more block
pub hash_after_next : (h y x : ℕ) (xs : List ℕ) → hash_after h y (xs ++ x ∷ []) ≡ hash_next h (hash_after h y xs) x
hash_after_next h y x xs = fold-append (hash_next h) y xs (x ∷ [])

-- the sum is added to the first block
pub weighted-first : AddsInFirst → Associates → ProductIsBlock → (h y : ℕ) → h < 2 ^ 128 → (xs : List ℕ) → 0 < length xs
    → weighted h (set xs 0 (bit_xor (slice_index xs 0) y)) ≡ hash_after h y xs
weighted-first adds same block h y lt [] some = absurd (omega arith)
weighted-first adds same block h y lt (x ∷ xs) some =
    ap (λ (z : ℕ). weighted h (z ∷ xs)) (xor_comm x y) ∙ sym (by_powers adds same block h lt y x xs)

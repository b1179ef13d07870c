-- The difference of two tags under one mask is the difference of the hashes.
use Rattle.{
  std.proofs.{
    Common.{◌≡◌, ℕ, zero, suc, ◌+◌, ◌*◌, ◌%◌, ◌^◌, ◌<◌, List, [], ◌∷◌, length, get_or, bit_xor, refl, sym, ap, ap₂},
    Common.{◌∙◌, arith, ext_get_or, pow-add, pow_pos},
    lemmas.Nat.{mod-pow-add, mul-add-lt, xor_block, xor_comm},
  },
  std.specs.{Int.{w128, byte_at, bytes_high_first, to_be_bytes, Bits.xor_zero_r}, List.AllByRecursion},
  macsec_ghash.proofs.MovedSums.{octet_is, octet_lt},
  macsec_gcm.{proofs.KeyStreams.{get_or-sum_with_stream, length-sum_with_stream}, specs.Octets.sum_with_stream},
  macsec_hash_keys.proofs.{Lists.{length-plus, plus}, Squares.twice_inside},
}

abbrev AreOctets : List ℕ → Type 0
AreOctets xs = AllByRecursion (λ x. x < 2 ^ 8) xs

-- ---- octets as a number, most significant first

pub number_of : List ℕ → ℕ
number_of [] = 0
number_of (x ∷ xs) = x * 2 ^ (8 * length xs) + number_of xs

one_more : (n : ℕ) → 8 + 8 * n ≡ 8 * suc n
one_more n = omega arith

number_lt : (xs : List ℕ) → AreOctets xs → number_of xs < 2 ^ (8 * length xs)
unfolding number_of
number_lt [] small = pow_pos (8 * 0)
number_lt (x ∷ xs) small =
    let lt = mul-add-lt x _ _ _ small.0 (number_lt xs small.1) in
    let more : 2 ^ (8 * length xs) * 2 ^ 8 ≡ 2 ^ (8 * suc (length xs)) =
    sym (pow-add 2 (8 * length xs) 8) ∙ ap (λ n. 2 ^ n) (omega arith) in
    rw more at lt

number-plus : (xs ys : List ℕ) → length xs ≡ length ys → AreOctets xs → AreOctets ys
    → number_of (plus xs ys) ≡ bit_xor (number_of xs) (number_of ys)
unfolding number_of plus
number-plus [] [] long sx sy = refl
number-plus (x ∷ xs) (y ∷ ys) long sx sy =
    let same : length xs ≡ length ys = omega arith in
    let long_sum : length (plus xs ys) ≡ length xs = omega (arith, length-plus xs ys) in
    let lx = number_lt xs sx.1 in
    let ly : number_of ys < 2 ^ (8 * length xs) = (let lt = number_lt ys sy.1 in rw (← same) at lt) in
    ap₂ (λ (n r : ℕ). bit_xor x y * 2 ^ (8 * n) + r) long_sum (number-plus xs ys same sx.1 sy.1)
    ∙ sym (xor_block (8 * length xs) x y (number_of xs) (number_of ys) lx ly)
    ∙ ap (λ n. bit_xor (x * 2 ^ (8 * length xs) + number_of xs) (y * 2 ^ (8 * n) + number_of ys)) same
number-plus xs ys long sx sy = absurd (omega arith)

length-octets : (m g : ℕ) → length (bytes_high_first m g) ≡ m
length-octets zero g = refl
length-octets (suc m) g = ap suc (length-octets m g)

octets_lt : (m g : ℕ) → AreOctets (bytes_high_first m g)
octets_lt zero g = tt
octets_lt (suc m) g = (octet_lt m g, octets_lt m g)

number_of-octets : (m g : ℕ) → number_of (bytes_high_first m g) ≡ g % 2 ^ (8 * m)
unfolding number_of
number_of-octets zero g = omega arith
number_of-octets (suc m) g =
    ap₂ (λ (n r : ℕ). byte_at m g * 2 ^ (8 * n) + r) (length-octets m g) (number_of-octets m g)
    ∙ ap (λ n. n * 2 ^ (8 * m) + g % 2 ^ (8 * m)) (octet_is m g)
    ∙ sym (mod-pow-add g 8 (8 * m))
    ∙ ap (λ n. g % 2 ^ n) (one_more m)

-- ---- the sum of two hashes, from their octets

octets_of : ℕ → List ℕ
octets_of g = to_be_bytes w128 g

pub sum_of_hashes : (g k : ℕ) → g < 2 ^ 128 → k < 2 ^ 128
    → bit_xor g k ≡ number_of (plus (to_be_bytes w128 g) (to_be_bytes w128 k))
sum_of_hashes g k lg lk =
    let whole_g : number_of (bytes_high_first 16 g) ≡ g = number_of-octets 16 g ∙ omega arith in
    let whole_k : number_of (bytes_high_first 16 k) ≡ k = number_of-octets 16 k ∙ omega arith in
    sym (number-plus _ _ (length-octets 16 g ∙ sym (length-octets 16 k)) (octets_lt 16 g) (octets_lt 16 k)
    ∙ ap₂ bit_xor whole_g whole_k)

-- ---- masks cancel

get_or-plus : (xs ys : List ℕ) (k : ℕ) → get_or (plus xs ys) k 0 ≡ bit_xor (get_or xs k 0) (get_or ys k 0)
unfolding plus
get_or-plus (x ∷ xs) [] k = sym (xor_zero_r (get_or (x ∷ xs) k 0))
get_or-plus (x ∷ xs) (y ∷ ys) (suc k) = get_or-plus xs ys k
get_or-plus xs ys k = refl

mask_cancels : (a b m : ℕ) → bit_xor (bit_xor a m) (bit_xor b m) ≡ bit_xor a b
mask_cancels a b m = ap (bit_xor (bit_xor a m)) (xor_comm b m) ∙ twice_inside a m b

pub masks_cancel : (xs ys mask : List ℕ) → length xs ≡ length ys
    → plus (sum_with_stream xs mask) (sum_with_stream ys mask) ≡ plus xs ys
masks_cancel xs ys mask long =
    let lx = length-sum_with_stream xs mask in
    let ly = length-sum_with_stream ys mask in
    let us = sum_with_stream xs mask in
    let vs = sum_with_stream ys mask in
    let all : length (plus us vs) ≡ length xs = omega (arith, length-plus us vs, lx, ly) in
    ext_get_or 0 (plus us vs) (plus xs ys) (all ∙ omega (arith, length-plus xs ys)) (λ k lt.
    get_or-plus us vs k
    ∙ ap₂ bit_xor (get_or-sum_with_stream xs mask k (omega arith)) (get_or-sum_with_stream ys mask k (omega arith))
    ∙ mask_cancels (get_or xs k 0) (get_or ys k 0) (get_or mask k 0)
    ∙ sym (get_or-plus xs ys k))

-- Texts of one length with the same padded blocks are the same.
use Rattle.{
  std.proofs.{
    Common.{◌≡◌, inl, inr, ℕ, zero, suc, ◌+◌, ◌-◌, ◌*◌, ◌/◌, ◌^◌, ◌<◌, ◌≤◌, List, [], ◌∷◌, ◌++◌, length, take, drop},
    Common.{replicate, get_or, slice_index, refl, sym, ap, ap₂, ◌∙◌, arith, length-take, length-drop, take-append-drop},
    Common.{ext_get_or, pow-add, pow_pos},
    lemmas.Bool.cases_lt,
    lemmas.List.{get_or_append_left, nil_from_length, Elements.{All-drop, All-take, recursion_from_All}},
    lemmas.Nat.mul-add-lt,
  },
  std.specs.{Int.{w128, from_be_bytes}, List.AllByRecursion},
  macsec_ghash.specs.Ghash.{block_of, blocks_of, pad},
  macsec_tag.specs.Laws.AreOctets,
  macsec_hash_keys.proofs.Roots.AreBlocks,
}

-- ---- sixteen octets as a number

-- n octets as a number, most significant first
pub number_of : ℕ → (ℕ → ℕ) → ℕ
number_of zero f = 0
number_of (suc n) f = number_of n f * 2 ^ 8 + f n

pub number_is : (octets : List ℕ) → from_be_bytes w128 octets ≡ number_of 16 (λ i. slice_index octets i)
unfolding number_of
number_is octets = omega arith

one_more : (n : ℕ) → 8 + 8 * n ≡ 8 * suc n
one_more n = omega arith

pub number_lt : (n : ℕ) (f : ℕ → ℕ) → ((i : ℕ) → f i < 256) → number_of n f < 2 ^ (8 * n)
unfolding number_of
number_lt zero f small = pow_pos (8 * 0)
number_lt (suc n) f small =
    let lt = mul-add-lt _ _ (f n) _ (number_lt n f small) (small n) in
    let more : 2 ^ 8 * 2 ^ (8 * n) ≡ 2 ^ (8 * suc n) = sym (pow-add 2 8 (8 * n)) ∙ ap (λ k. 2 ^ k) (one_more n) in
    rw more at lt

-- equal numbers have equal octets
octets_same : (n : ℕ) (f g : ℕ → ℕ) → ((i : ℕ) → f i < 256) → ((i : ℕ) → g i < 256)
    → number_of n f ≡ number_of n g → (i : ℕ) → i < n → f i ≡ g i
unfolding number_of
octets_same zero f g small small' e i lt = absurd (omega arith)
octets_same (suc n) f g small small' e i lt =
    let a = small n in
    let b = small' n in
    let last : f n ≡ g n = omega arith in
    let before : number_of n f ≡ number_of n g = omega arith in
    elim (cases_lt i n) [
      | inl below ↦ octets_same n f g small small' before i below
      | inr above ↦ let here : i ≡ n = omega arith in rw here last
    ]

zeros_at : (n i : ℕ) → get_or {A = ℕ} (replicate n 0) i 0 ≡ 0
zeros_at (suc n) (suc i) = zeros_at n i
zeros_at n i = refl

-- the octets of a padded text
padded_at : (xs : List ℕ) (n : ℕ) → AllByRecursion (λ x. x < 256) xs → (i : ℕ) → get_or (xs ++ replicate n 0) i 0 < 256
padded_at [] n small i = let zero_at = zeros_at n i in omega arith
padded_at (x ∷ xs) n small zero = small.0
padded_at (x ∷ xs) n small (suc i) = padded_at xs n small.1 i

padded_octets : (xs : List ℕ) (n : ℕ) → AreOctets xs → (i : ℕ) → get_or (xs ++ replicate n 0) i 0 < 256
padded_octets xs n small = padded_at xs n (recursion_from_All (λ x. x < 256) xs small)

-- ---- one block

block_of_lt : (xs : List ℕ) → AreOctets xs → block_of xs < 2 ^ 128
unfolding block_of
block_of_lt xs small =
    let zeros = replicate (16 - length xs) 0 in
    let is = number_is (xs ++ zeros) in
    let lt = number_lt 16 (λ i. slice_index (xs ++ zeros) i) (padded_octets xs (16 - length xs) small) in
    omega (arith, is, lt)

block_of_same : (xs ys : List ℕ) → AreOctets xs → AreOctets ys → length xs ≡ length ys → length xs ≤ 16
    → block_of xs ≡ block_of ys → xs ≡ ys
unfolding block_of
block_of_same xs ys small small' long le e =
    let us = replicate (16 - length xs) 0 in
    let vs = replicate (16 - length ys) 0 in
    let same : number_of 16 (λ i. slice_index (xs ++ us) i) ≡ number_of 16 (λ i. slice_index (ys ++ vs) i) =
    sym (number_is _) ∙ e ∙ number_is _ in
    ext_get_or 0 xs ys long (λ i lt.
    sym (get_or_append_left xs us 0 i lt)
    ∙ octets_same 16 (λ i. slice_index (xs ++ us) i) (λ i. slice_index (ys ++ vs) i)
    (padded_octets xs _ small) (padded_octets ys _ small') same i (omega arith)
    ∙ get_or_append_left ys vs 0 i (omega arith))

-- ---- all blocks

length-blocks_of : (n : ℕ) (text : List ℕ) → length (blocks_of n text) ≡ n
unfolding blocks_of
length-blocks_of zero text = refl
length-blocks_of (suc n) text = ap suc (length-blocks_of n _)

pub length-pad : (text : List ℕ) → length (pad text) ≡ (length text + 15) / 16
unfolding pad
length-pad text = length-blocks_of _ text

blocks_of_lt : (n : ℕ) (text : List ℕ) → AreOctets text → AreBlocks (blocks_of n text)
unfolding blocks_of
blocks_of_lt zero text small = tt
blocks_of_lt (suc n) text small = (
  block_of_lt (take 16 text) (All-take (λ x. x < 256) 16 text small),
  blocks_of_lt n (drop 16 text) (All-drop (λ x. x < 256) 16 text small),
)

pub pad_lt : (text : List ℕ) → AreOctets text → AreBlocks (pad text)
unfolding pad
pad_lt text small = blocks_of_lt _ text small

blocks_same : (n : ℕ) (xs ys : List ℕ) → AreOctets xs → AreOctets ys → length xs ≡ length ys → length xs ≤ 16 * n
    → blocks_of n xs ≡ blocks_of n ys → xs ≡ ys
unfolding blocks_of
blocks_same zero xs ys small small' long le e =
    nil_from_length xs (omega arith) ∙ sym (nil_from_length ys (omega arith))
blocks_same (suc n) xs ys small small' long le e =
    let first : block_of (take 16 xs) ≡ block_of (take 16 ys) = cc in
    let rest : blocks_of n (drop 16 xs) ≡ blocks_of n (drop 16 ys) = cc in
    let front : take 16 xs ≡ take 16 ys =
    block_of_same _ _ (All-take (λ x. x < 256) 16 xs small) (All-take (λ x. x < 256) 16 ys small')
    (omega (arith, length-take 16 xs, length-take 16 ys)) (omega (arith, length-take 16 xs)) first in
    let back : drop 16 xs ≡ drop 16 ys =
    blocks_same n _ _ (All-drop (λ x. x < 256) 16 xs small) (All-drop (λ x. x < 256) 16 ys small')
    (omega (arith, length-drop 16 xs, length-drop 16 ys)) (omega (arith, length-drop 16 xs)) rest in
    sym (take-append-drop 16 xs) ∙ ap₂ (λ (us vs : List ℕ). us ++ vs) front back ∙ take-append-drop 16 ys

pub pad_same : (xs ys : List ℕ) → AreOctets xs → AreOctets ys → length xs ≡ length ys → pad xs ≡ pad ys → xs ≡ ys
unfolding pad
pad_same xs ys small small' long e =
    let count : (length ys + 15) / 16 ≡ (length xs + 15) / 16 = ap (λ n. (n + 15) / 16) (sym long) in
    blocks_same _ xs ys small small' long (omega arith) (e ∙ ap (λ n. blocks_of n ys) count)

-- The hash is the value at the key of a polynomial, so two messages whose hashes differ by a given number give a root.
use Rattle.{
  std.proofs.{
    Common.{◌≡◌, ℕ, ◌+◌, ◌*◌, ◌/◌, ◌^◌, ◌<◌, ◌≤◌, max, List, [], ◌∷◌, ◌++◌, length, get_or, fold, bit_xor, refl, sym},
    Common.{ap, ap₂, ◌∙◌, arith},
    lemmas.{List.Elements.{recursion_from_All, All-from_recursion}, Nat.{xor_comm, xor_lt}},
  },
  std.specs.{Int.Bits.{xor_self, xor_zero_r}, List.All},
  macsec_field128.{
    proofs.{Additive.xor_swap, ProductLaws.{adds_in_first, product_is_block}},
    specs.Field.block_product,
  },
  macsec_ghash.specs.Ghash.{ghash, hash_next, pad},
  macsec_gcm.{proofs.Words.pad_words, specs.Gcm.length_block},
  macsec_hash_keys.proofs.{
    Inverses.product_of_zero,
    Lists.{length-plus, length-turned, plus, plus_lt, same_from_turned, same_from_zeros, turned, turned-append},
    Lists.turned_lt,
    Padding.{length-pad, pad_lt, pad_same},
    Roots.{AreBlocks, AreZero, few_roots, no_difference},
  },
  macsec_hash_keys.specs.{Collisions.{FewCollisions, IsMessage, block_count}, Polynomials.{AreKeys, value_at}},
}

-- ---- the hash as the value of a polynomial, whose lowest coefficient belongs to the last block

hash_from : (h : ℕ) (xs after : List ℕ)
    → fold (hash_next h) (block_product (value_at h after) h) xs ≡ block_product (value_at h (turned xs after)) h
unfolding value_at turned
hash_from h [] after = refl
hash_from h (x ∷ xs) after =
    ap (λ y. fold (hash_next h) (block_product y h) xs) (xor_comm (block_product (value_at h after) h) x)
    ∙ hash_from h xs _

hash_is : (h : ℕ) (xs : List ℕ) → ghash h xs ≡ block_product (value_at h (turned xs [])) h
unfolding ghash value_at
hash_is h xs = ap (λ y. fold (hash_next h) y xs) (sym (product_of_zero h)) ∙ hash_from h xs []

pub hash_lt : (h : ℕ) (xs : List ℕ) → h < 2 ^ 128 → ghash h xs < 2 ^ 128
hash_lt h xs lh =
    let lt = product_is_block (value_at h (turned xs [])) h lh in
    rw (← hash_is h xs) at lt

value-plus : (h : ℕ) (xs ys : List ℕ) → value_at h (plus xs ys) ≡ bit_xor (value_at h xs) (value_at h ys)
unfolding value_at plus
value-plus h [] ys = refl
value-plus h (x ∷ xs) [] = sym (xor_zero_r (bit_xor x (block_product (value_at h xs) h)))
value-plus h (x ∷ xs) (y ∷ ys) =
    ap (bit_xor (bit_xor x y))
    (ap (λ n. block_product n h) (value-plus h xs ys) ∙ adds_in_first (value_at h xs) (value_at h ys) h)
    ∙ xor_swap x y _ _

root_from_difference : (h d : ℕ) (xs ys : List ℕ) → bit_xor (ghash h xs) (ghash h ys) ≡ d
    → value_at h (d ∷ plus (turned xs []) (turned ys [])) ≡ 0
unfolding value_at
root_from_difference h d xs ys e =
    let p = turned xs [] in
    let q = turned ys [] in
    ap (bit_xor d) (ap (λ n. block_product n h) (value-plus h p q)
    ∙ adds_in_first (value_at h p) (value_at h q) h
    ∙ ap₂ bit_xor (sym (hash_is h xs)) (sym (hash_is h ys)) ∙ e)
    ∙ xor_self d

-- ---- the coefficients of a message

-- the block of the lengths
unfoldable pub lengths : List ℕ → List ℕ → ℕ
lengths aad text = 8 * length aad * 2 ^ 64 + 8 * length text

coefficients : List ℕ → List ℕ → List ℕ
coefficients aad text = lengths aad text ∷ turned (pad text) (turned (pad aad) [])

hashed : List ℕ → List ℕ → List ℕ
hashed aad text = pad aad ++ (pad text ++ pad (length_block aad text))

pub length_block_is : (aad text : List ℕ) → IsMessage aad text → pad (length_block aad text) ≡ lengths aad text ∷ []
unfolding length_block lengths
length_block_is aad text m =
    let la = m.aad_fits in
    let lt = m.text_fits in
    pad_words _ _ (omega arith) (omega arith)

coefficients_are : (aad text : List ℕ) → IsMessage aad text → turned (hashed aad text) [] ≡ coefficients aad text
unfolding coefficients hashed turned
coefficients_are aad text m =
    ap (λ last. turned (pad aad ++ (pad text ++ last)) []) (length_block_is aad text m)
    ∙ turned-append (pad aad) (pad text ++ lengths aad text ∷ []) []
    ∙ turned-append (pad text) (lengths aad text ∷ []) (turned (pad aad) [])

length-coefficients : (aad text : List ℕ) → length (coefficients aad text) ≡ block_count aad text
unfolding coefficients
length-coefficients aad text =
    omega (
      arith,
      length-turned (pad text) (turned (pad aad) []),
      length-turned (pad aad) [],
      length-pad aad,
      length-pad text,
    )

coefficients_lt : (aad text : List ℕ) → IsMessage aad text → AreBlocks (coefficients aad text)
unfolding coefficients lengths
coefficients_lt aad text m =
    let la = m.aad_fits in
    let lt = m.text_fits in (
      omega arith,
      turned_lt (pad text) (turned (pad aad) []) (pad_lt text m.text_octets)
          (turned_lt (pad aad) [] (pad_lt aad m.aad_octets) tt),
    )

-- messages with the same coefficients are the same
same_lengths : (aad text aad' text' : List ℕ) → IsMessage aad text → IsMessage aad' text'
    → lengths aad text ≡ lengths aad' text'
    → (length aad ≡ length aad') × (length text ≡ length text')
unfolding lengths
same_lengths aad text aad' text' m m' e =
    let lt = m.text_fits in
    let lt' = m'.text_fits in
    (omega arith, omega arith)

same_messages : (aad text aad' text' : List ℕ) → IsMessage aad text → IsMessage aad' text'
    → AreZero (plus (coefficients aad text) (coefficients aad' text')) → (aad ≡ aad') × (text ≡ text')
unfolding coefficients plus
same_messages aad text aad' text' m m' zeros =
    let long = same_lengths aad text aad' text' m m' (no_difference (lengths aad text) (lengths aad' text') zeros.0) in
    let long_aad : length (pad aad) ≡ length (pad aad') =
    length-pad aad ∙ ap (λ n. (n + 15) / 16) long.0 ∙ sym (length-pad aad') in
    let long_text : length (pad text) ≡ length (pad text') =
    length-pad text ∙ ap (λ n. (n + 15) / 16) long.1 ∙ sym (length-pad text') in
    let all =
    same_from_zeros (turned (pad text) (turned (pad aad) [])) (turned (pad text') (turned (pad aad') []))
    (omega (
      arith,
      length-turned (pad text) (turned (pad aad) []),
      length-turned (pad aad) [],
      length-turned (pad text') (turned (pad aad') []),
      length-turned (pad aad') [],
    ))
    zeros.1 in
    let texts = same_from_turned (pad text) (pad text') (turned (pad aad) []) (turned (pad aad') []) long_text all in
    let aads = same_from_turned (pad aad) (pad aad') [] [] long_aad texts.1 in (
      pad_same aad aad' m.aad_octets m'.aad_octets long.0 aads.0,
      pad_same text text' m.text_octets m'.text_octets long.1 texts.0,
    )

-- ---- counting

difference_lt : (h d : ℕ) (xs ys : List ℕ) → h < 2 ^ 128 → bit_xor (ghash h xs) (ghash h ys) ≡ d → d < 2 ^ 128
difference_lt h d xs ys lh e =
    let lt = xor_lt 128 (ghash h xs) (ghash h ys) (hash_lt h xs lh) (hash_lt h ys lh) in
    rw e at lt

count_collisions : (aad text aad' text' : List ℕ) (d : ℕ) (hs : List ℕ) → d < 2 ^ 128
    → IsMessage aad text → IsMessage aad' text' → (aad ≡ aad' → text ≡ text' → ⊥)
    → AreKeys hs → All (λ h. bit_xor (ghash h (hashed aad text)) (ghash h (hashed aad' text')) ≡ d) hs
    → length hs ≤ max (block_count aad text) (block_count aad' text')
count_collisions aad text aad' text' d hs ld m m' apart keys same =
    let p = coefficients aad text in
    let q = coefficients aad' text' in
    let fewer = few_roots (d ∷ plus p q) hs
    (All-from_recursion (λ x. x < 2 ^ 128) (d ∷ plus p q)
    (ld, plus_lt p q (coefficients_lt aad text m) (coefficients_lt aad' text' m')))
    (λ zeros.
    let each = recursion_from_All (λ x. x ≡ 0) (d ∷ plus p q) zeros in
    let both = same_messages aad text aad' text' m m' each.1 in
    apart both.0 both.1)
    keys
    (λ k default lt.
    let h = get_or hs k default in
    ap₂ (λ (us vs : List ℕ). value_at h (d ∷ plus us vs)) (sym (coefficients_are aad text m))
    (sym (coefficients_are aad' text' m'))
    ∙ root_from_difference h d (hashed aad text) (hashed aad' text') (same k default lt)) in
    omega (arith, fewer, length-plus p q, length-coefficients aad text, length-coefficients aad' text')

pub few_collisions : FewCollisions
unfolding hashed
few_collisions aad text aad' text' d [] m m' apart keys same = omega arith
few_collisions aad text aad' text' d (h ∷ hs) m m' apart keys same =
    count_collisions aad text aad' text' d _
    (difference_lt h d _ _ (keys.blocks 0 0 (omega arith)) (same 0 0 (omega arith))) m m' apart keys same

-- Inverses of bytes, from a table. That its entries are inverses is computed over the bytes with one bit set.
use Rattle.std.proofs.{
  Common.{◌≡◌, ℕ, zero, suc, ◌+◌, ◌-◌, ◌%◌, ◌^◌, ◌<◌, true, false, inl, inr, Option, None, Some, List, [], ◌∷◌, map},
  Common.{length, get_or, unwrap_or, refl, sym, subst, ap, ◌∙◌, arith, ◌==◌, Bool, position, lt-ltb},
  lemmas.Bool.Decides.eqb_tells,
  lemmas.List.{
    FromFn.{get_or-range_with_len, get_or-map-range_with_len},
    Quantifiers.position-Some,
    Sums.position_or_len_is,
  },
}
use Rattle.std.specs.List.{range_with_len, position_or_len}
use Rattle.macsec_aes.{
  proofs.{Products.{same_from_ones, byte_product_adds}, Tables.same_below},
  specs.{Field.{sum_below, polynomial_product, remainder, byte_product, inverse}, Laws.{InverseIsByte, OneInverse}},
}

pub inverse_is_byte : InverseIsByte
unfolding inverse
inverse_is_byte a =
    found (position (λ b. byte_product a b == 1) (range_with_len 0 256)) refl
  where
    found : (o : Option ℕ) → position (λ b. byte_product a b == 1) (range_with_len 0 256) ≡ o → unwrap_or o 0 < 2 ^ 8
    found None e = omega arith
    found (Some i) e = (position-Some (λ b. byte_product a b == 1) (range_with_len 0 256) i 0 e).0

-- ---- the table

-- the inverses of the bytes from 0 on, and 0 for 0
unfoldable pub entries : List ℕ
entries =
    0x00 ∷ 0x01 ∷ 0x8d ∷ 0xf6 ∷ 0xcb ∷ 0x52 ∷ 0x7b ∷ 0xd1 ∷ 0xe8 ∷ 0x4f ∷ 0x29 ∷ 0xc0 ∷ 0xb0 ∷ 0xe1 ∷ 0xe5 ∷ 0xc7 ∷
    0x74 ∷ 0xb4 ∷ 0xaa ∷ 0x4b ∷ 0x99 ∷ 0x2b ∷ 0x60 ∷ 0x5f ∷ 0x58 ∷ 0x3f ∷ 0xfd ∷ 0xcc ∷ 0xff ∷ 0x40 ∷ 0xee ∷ 0xb2 ∷
    0x3a ∷ 0x6e ∷ 0x5a ∷ 0xf1 ∷ 0x55 ∷ 0x4d ∷ 0xa8 ∷ 0xc9 ∷ 0xc1 ∷ 0x0a ∷ 0x98 ∷ 0x15 ∷ 0x30 ∷ 0x44 ∷ 0xa2 ∷ 0xc2 ∷
    0x2c ∷ 0x45 ∷ 0x92 ∷ 0x6c ∷ 0xf3 ∷ 0x39 ∷ 0x66 ∷ 0x42 ∷ 0xf2 ∷ 0x35 ∷ 0x20 ∷ 0x6f ∷ 0x77 ∷ 0xbb ∷ 0x59 ∷ 0x19 ∷
    0x1d ∷ 0xfe ∷ 0x37 ∷ 0x67 ∷ 0x2d ∷ 0x31 ∷ 0xf5 ∷ 0x69 ∷ 0xa7 ∷ 0x64 ∷ 0xab ∷ 0x13 ∷ 0x54 ∷ 0x25 ∷ 0xe9 ∷ 0x09 ∷
    0xed ∷ 0x5c ∷ 0x05 ∷ 0xca ∷ 0x4c ∷ 0x24 ∷ 0x87 ∷ 0xbf ∷ 0x18 ∷ 0x3e ∷ 0x22 ∷ 0xf0 ∷ 0x51 ∷ 0xec ∷ 0x61 ∷ 0x17 ∷
    0x16 ∷ 0x5e ∷ 0xaf ∷ 0xd3 ∷ 0x49 ∷ 0xa6 ∷ 0x36 ∷ 0x43 ∷ 0xf4 ∷ 0x47 ∷ 0x91 ∷ 0xdf ∷ 0x33 ∷ 0x93 ∷ 0x21 ∷ 0x3b ∷
    0x79 ∷ 0xb7 ∷ 0x97 ∷ 0x85 ∷ 0x10 ∷ 0xb5 ∷ 0xba ∷ 0x3c ∷ 0xb6 ∷ 0x70 ∷ 0xd0 ∷ 0x06 ∷ 0xa1 ∷ 0xfa ∷ 0x81 ∷ 0x82 ∷
    0x83 ∷ 0x7e ∷ 0x7f ∷ 0x80 ∷ 0x96 ∷ 0x73 ∷ 0xbe ∷ 0x56 ∷ 0x9b ∷ 0x9e ∷ 0x95 ∷ 0xd9 ∷ 0xf7 ∷ 0x02 ∷ 0xb9 ∷ 0xa4 ∷
    0xde ∷ 0x6a ∷ 0x32 ∷ 0x6d ∷ 0xd8 ∷ 0x8a ∷ 0x84 ∷ 0x72 ∷ 0x2a ∷ 0x14 ∷ 0x9f ∷ 0x88 ∷ 0xf9 ∷ 0xdc ∷ 0x89 ∷ 0x9a ∷
    0xfb ∷ 0x7c ∷ 0x2e ∷ 0xc3 ∷ 0x8f ∷ 0xb8 ∷ 0x65 ∷ 0x48 ∷ 0x26 ∷ 0xc8 ∷ 0x12 ∷ 0x4a ∷ 0xce ∷ 0xe7 ∷ 0xd2 ∷ 0x62 ∷
    0x0c ∷ 0xe0 ∷ 0x1f ∷ 0xef ∷ 0x11 ∷ 0x75 ∷ 0x78 ∷ 0x71 ∷ 0xa5 ∷ 0x8e ∷ 0x76 ∷ 0x3d ∷ 0xbd ∷ 0xbc ∷ 0x86 ∷ 0x57 ∷
    0x0b ∷ 0x28 ∷ 0x2f ∷ 0xa3 ∷ 0xda ∷ 0xd4 ∷ 0xe4 ∷ 0x0f ∷ 0xa9 ∷ 0x27 ∷ 0x53 ∷ 0x04 ∷ 0x1b ∷ 0xfc ∷ 0xac ∷ 0xe6 ∷
    0x7a ∷ 0x07 ∷ 0xae ∷ 0x63 ∷ 0xc5 ∷ 0xdb ∷ 0xe2 ∷ 0xea ∷ 0x94 ∷ 0x8b ∷ 0xc4 ∷ 0xd5 ∷ 0x9d ∷ 0xf8 ∷ 0x90 ∷ 0x6b ∷
    0xb1 ∷ 0x0d ∷ 0xd6 ∷ 0xeb ∷ 0xc6 ∷ 0x0e ∷ 0xcf ∷ 0xad ∷ 0x08 ∷ 0x4e ∷ 0xd7 ∷ 0xe3 ∷ 0x5d ∷ 0x50 ∷ 0x1e ∷ 0xb3 ∷
    0x5b ∷ 0x23 ∷ 0x38 ∷ 0x34 ∷ 0x68 ∷ 0x46 ∷ 0x03 ∷ 0x8c ∷ 0xdd ∷ 0x9c ∷ 0x7d ∷ 0xa0 ∷ 0xcd ∷ 0x1a ∷ 0x41 ∷ 0x1c ∷ []

unfoldable pub entry : ℕ → ℕ
entry a = get_or entries a 0

entry_is_byte : (a : ℕ) → a < 256 → entry a < 256
unfolding entry entries
entry_is_byte a la =
    let same : get_or entries a 0 ≡ get_or entries a 0 % 256 = same_below (λ a. get_or entries a 0) (λ a. get_or entries a 0 % 256) 256 refl a la in
    omega arith

-- the product of a byte other than 0 with its entry
product_with_entry : (a : ℕ) → a < 255 → byte_product (a + 1) (entry (a + 1)) ≡ 1
unfolding byte_product polynomial_product remainder sum_below entry entries
product_with_entry = same_below (λ a. byte_product (a + 1) (entry (a + 1))) (λ a. 1) 255 refl

-- the bytes with one bit set, multiplied by a, then by b
abbrev products_of_ones : ℕ → ℕ → List ℕ
products_of_ones b a = map (λ k. byte_product b (byte_product a (2 ^ k))) (range_with_len 0 8)

all_products_of_ones : map (λ a. products_of_ones (entry (a + 1)) (a + 1)) (range_with_len 0 255) ≡ map (λ a. map (λ k. 2 ^ k) (range_with_len 0 8)) (range_with_len 0 255)
unfolding byte_product polynomial_product remainder sum_below entry entries
all_products_of_ones = refl

one_restored : (a k : ℕ) → a < 255 → k < 8 → byte_product (entry (a + 1)) (byte_product (a + 1) (2 ^ k)) ≡ 2 ^ k
one_restored a k la lk =
    sym (get_or-map-range_with_len (λ k. byte_product (entry (a + 1)) (byte_product (a + 1) (2 ^ k))) 0 8 k k 0 lk (omega arith))
    ∙ ap (λ (t : List ℕ). get_or t k 0)
    (sym (get_or-map-range_with_len (λ a. products_of_ones (entry (a + 1)) (a + 1)) 0 255 a a [] la (omega arith))
    ∙ ap (λ (t : List (List ℕ)). get_or t a []) all_products_of_ones
    ∙ get_or-map-range_with_len (λ a. map (λ k. 2 ^ k) (range_with_len 0 8)) 0 255 a a [] la (omega arith))
    ∙ get_or-map-range_with_len (λ k. 2 ^ k) 0 8 k k 0 lk (omega arith)

-- multiplying by a byte other than 0 and then by its entry changes nothing
restored : (a b : ℕ) → a < 255 → b < 256 → byte_product (entry (a + 1)) (byte_product (a + 1) b) ≡ b
restored a b la lb =
    let n = entry (a + 1) in
    same_from_ones (λ b. byte_product n (byte_product (a + 1) b)) (λ b. b)
    (record { adds = λ b c. ap (byte_product n) ((byte_product_adds (a + 1)).adds b c) ∙ (byte_product_adds n).adds (byte_product (a + 1) b) (byte_product (a + 1) c) })
    (record { adds = λ b c. refl })
    8 (λ k lk. one_restored a k la lk) b lb

-- only its entry gives the product 1 with a byte
only_entry : (a b : ℕ) → a < 255 → b < 256 → byte_product (a + 1) b ≡ 1 → b ≡ entry (a + 1)
only_entry a b la lb e =
    let n = entry (a + 1) in
    let once : byte_product n 1 ≡ n = ap (byte_product n) (sym (product_with_entry a la)) ∙ restored a n la (entry_is_byte (a + 1) (omega arith)) in
    sym (restored a b la lb) ∙ ap (byte_product n) e ∙ once

-- ---- the inverse is the entry

at_position : (p : ℕ → Bool) (xs : List ℕ) (i : ℕ) → position_or_len p xs ≡ i → i < length xs → unwrap_or (position p xs) 0 ≡ i
at_position p xs i e inside = rw (e, lt-ltb i (length xs) inside) refl

at_index : (k : ℕ) → k < 256 → get_or (range_with_len 0 256) k 0 ≡ k
at_index k below = get_or-range_with_len 0 256 k 0 below ∙ omega arith

entry_of_next : (a : ℕ) → a < 255 → inverse (a + 1) ≡ entry (a + 1)
unfolding inverse
entry_of_next a la =
    at_position (λ b. byte_product (a + 1) b == 1) (range_with_len 0 256) (entry (a + 1))
    (position_or_len_is (λ b. byte_product (a + 1) b == 1) (range_with_len 0 256) (entry (a + 1)) 0 (omega (arith, inside)) before here)
    inside
  where
    inside : entry (a + 1) < 256
    inside = entry_is_byte (a + 1) (omega arith)

    before : (k : ℕ) → k < entry (a + 1) → (byte_product (a + 1) (get_or (range_with_len 0 256) k 0) == 1) ≡ false
    before k less =
        let below : k < 256 = omega (arith, inside) in
        rw (at_index k below)
        (elim (eqb_tells (byte_product (a + 1) k) 1) [
          | inl same ↦ (let it = only_entry a k la below same.1 in absurd (omega arith))
          | inr other ↦ other.0
        ])

    here : entry (a + 1) < 256 → (byte_product (a + 1) (get_or (range_with_len 0 256) (entry (a + 1)) 0) == 1) ≡ true
    here small = rw (at_index (entry (a + 1)) small, product_with_entry a la) refl

-- no byte gives the product 1 with 0
inverse_of_0 : inverse 0 ≡ entry 0
unfolding byte_product polynomial_product remainder sum_below inverse entry entries
inverse_of_0 = refl

pub inverse_is_entry : (a : ℕ) → a < 256 → inverse a ≡ entry a
inverse_is_entry zero la = inverse_of_0
inverse_is_entry (suc a) la =
    let next : a + 1 ≡ suc a = omega arith in
    subst (λ (n : ℕ). inverse n ≡ entry n) next (entry_of_next a (omega arith))

-- ---- the law

pub one_inverse : OneInverse
one_inverse a b pos la lb =
    let below : a - 1 < 255 = omega arith in
    let whole : a - 1 + 1 ≡ a = omega arith in
    let same = inverse_is_entry a la in (
      λ e. rw whole at (only_entry (a - 1) b below lb (rw (sym whole) at e)) ∙ sym same,
      λ e. ap (byte_product a) (e ∙ same) ∙ rw whole at (product_with_entry (a - 1) below),
    )

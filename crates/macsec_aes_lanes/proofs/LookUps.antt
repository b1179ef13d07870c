-- The look-ups of nibbles, computed for each byte.
use Rattle.macsec_aes_lanes.proofs.{
  Names.{[], ◌%◌, ◌/◌, ◌<◌, ◌∙◌, ◌∷◌, ◌≡◌, ap, arith, bit_xor, byte_product, entry, get_or-map-range_with_len, IsPlace},
  Names.{linear, List, map, plus_constant, polynomial_product, range_with_len, refl, remainder, represented, rules},
  Names.{s_box, S_BOX_lem, slice_index, sum_below, ℕ},
  Below.same_below,
  Places.{place_from, place_test},
}
use Rattle.macsec_aes_lanes.specs.{
  Nibbles.{first_sum, second_sum, left_part, right_part},
  declared.nibbles.TheConstants.{FROM_LEFT, FROM_RIGHT, ONCE_LEFT, ONCE_RIGHT, TWICE_LEFT, TWICE_RIGHT, LAST_LEFT},
  declared.nibbles.TheConstants.LAST_RIGHT,
}

-- ---- each look-up is at a nibble or at infinity

abbrev one : ℕ
one = 1

abbrev none : ℕ
none = 0

places : (f : ℕ → ℕ) → map (λ x. place_test (f x)) (range_with_len 0 256) ≡ map (λ (x : ℕ). one) (range_with_len 0 256) → (x : ℕ) → x < 256 → IsPlace (f x)
places f same x lt = place_from (f x) (same_below (λ x. place_test (f x)) (λ x. one) 256 same x lt)

pub first_is_place : (x : ℕ) → x < 256 → IsPlace (first_sum x)
first_is_place = places first_sum refl

pub second_is_place : (x : ℕ) → x < 256 → IsPlace (second_sum x)
second_is_place = places second_sum refl

pub left_is_place : (x : ℕ) → x < 256 → IsPlace (left_part x)
left_is_place = places left_part refl

pub right_is_place : (x : ℕ) → x < 256 → IsPlace (right_part x)
right_is_place = places right_part refl

pub sum_is_place : (x : ℕ) → x < 256 → IsPlace (bit_xor (x / 16) (x % 16))
sum_is_place = places (λ x. bit_xor (x / 16) (x % 16)) refl

-- ---- what is found

below : (f : ℕ → ℕ) → map (λ x. f x / 256) (range_with_len 0 256) ≡ map (λ (x : ℕ). none) (range_with_len 0 256) → (x : ℕ) → x < 256 → f x < 256
below f same x lt =
    let zero : f x / 256 ≡ 0 = same_below (λ x. f x / 256) (λ x. none) 256 same x lt in
    omega (arith, zero)

represented_below : (x : ℕ) → x < 256 → represented x < 256
unfolding represented linear sum_below
represented_below = below represented refl

pub from_is : (x : ℕ) → x < 256 → represented (bit_xor (entry FROM_LEFT (x / 16)) (entry FROM_RIGHT (x % 16))) ≡ x
unfolding represented linear sum_below
from_is = same_below (λ x. represented (bit_xor (entry FROM_LEFT (x / 16)) (entry FROM_RIGHT (x % 16)))) (λ x. x) 256 refl

-- the S-box of each byte
abbrev s_boxes : List ℕ
s_boxes =
    0x63 ∷ 0x7c ∷ 0x77 ∷ 0x7b ∷ 0xf2 ∷ 0x6b ∷ 0x6f ∷ 0xc5 ∷ 0x30 ∷ 0x01 ∷ 0x67 ∷ 0x2b ∷ 0xfe ∷ 0xd7 ∷ 0xab ∷ 0x76
    ∷ 0xca ∷ 0x82 ∷ 0xc9 ∷ 0x7d ∷ 0xfa ∷ 0x59 ∷ 0x47 ∷ 0xf0 ∷ 0xad ∷ 0xd4 ∷ 0xa2 ∷ 0xaf ∷ 0x9c ∷ 0xa4 ∷ 0x72 ∷ 0xc0
    ∷ 0xb7 ∷ 0xfd ∷ 0x93 ∷ 0x26 ∷ 0x36 ∷ 0x3f ∷ 0xf7 ∷ 0xcc ∷ 0x34 ∷ 0xa5 ∷ 0xe5 ∷ 0xf1 ∷ 0x71 ∷ 0xd8 ∷ 0x31 ∷ 0x15
    ∷ 0x04 ∷ 0xc7 ∷ 0x23 ∷ 0xc3 ∷ 0x18 ∷ 0x96 ∷ 0x05 ∷ 0x9a ∷ 0x07 ∷ 0x12 ∷ 0x80 ∷ 0xe2 ∷ 0xeb ∷ 0x27 ∷ 0xb2 ∷ 0x75
    ∷ 0x09 ∷ 0x83 ∷ 0x2c ∷ 0x1a ∷ 0x1b ∷ 0x6e ∷ 0x5a ∷ 0xa0 ∷ 0x52 ∷ 0x3b ∷ 0xd6 ∷ 0xb3 ∷ 0x29 ∷ 0xe3 ∷ 0x2f ∷ 0x84
    ∷ 0x53 ∷ 0xd1 ∷ 0x00 ∷ 0xed ∷ 0x20 ∷ 0xfc ∷ 0xb1 ∷ 0x5b ∷ 0x6a ∷ 0xcb ∷ 0xbe ∷ 0x39 ∷ 0x4a ∷ 0x4c ∷ 0x58 ∷ 0xcf
    ∷ 0xd0 ∷ 0xef ∷ 0xaa ∷ 0xfb ∷ 0x43 ∷ 0x4d ∷ 0x33 ∷ 0x85 ∷ 0x45 ∷ 0xf9 ∷ 0x02 ∷ 0x7f ∷ 0x50 ∷ 0x3c ∷ 0x9f ∷ 0xa8
    ∷ 0x51 ∷ 0xa3 ∷ 0x40 ∷ 0x8f ∷ 0x92 ∷ 0x9d ∷ 0x38 ∷ 0xf5 ∷ 0xbc ∷ 0xb6 ∷ 0xda ∷ 0x21 ∷ 0x10 ∷ 0xff ∷ 0xf3 ∷ 0xd2
    ∷ 0xcd ∷ 0x0c ∷ 0x13 ∷ 0xec ∷ 0x5f ∷ 0x97 ∷ 0x44 ∷ 0x17 ∷ 0xc4 ∷ 0xa7 ∷ 0x7e ∷ 0x3d ∷ 0x64 ∷ 0x5d ∷ 0x19 ∷ 0x73
    ∷ 0x60 ∷ 0x81 ∷ 0x4f ∷ 0xdc ∷ 0x22 ∷ 0x2a ∷ 0x90 ∷ 0x88 ∷ 0x46 ∷ 0xee ∷ 0xb8 ∷ 0x14 ∷ 0xde ∷ 0x5e ∷ 0x0b ∷ 0xdb
    ∷ 0xe0 ∷ 0x32 ∷ 0x3a ∷ 0x0a ∷ 0x49 ∷ 0x06 ∷ 0x24 ∷ 0x5c ∷ 0xc2 ∷ 0xd3 ∷ 0xac ∷ 0x62 ∷ 0x91 ∷ 0x95 ∷ 0xe4 ∷ 0x79
    ∷ 0xe7 ∷ 0xc8 ∷ 0x37 ∷ 0x6d ∷ 0x8d ∷ 0xd5 ∷ 0x4e ∷ 0xa9 ∷ 0x6c ∷ 0x56 ∷ 0xf4 ∷ 0xea ∷ 0x65 ∷ 0x7a ∷ 0xae ∷ 0x08
    ∷ 0xba ∷ 0x78 ∷ 0x25 ∷ 0x2e ∷ 0x1c ∷ 0xa6 ∷ 0xb4 ∷ 0xc6 ∷ 0xe8 ∷ 0xdd ∷ 0x74 ∷ 0x1f ∷ 0x4b ∷ 0xbd ∷ 0x8b ∷ 0x8a
    ∷ 0x70 ∷ 0x3e ∷ 0xb5 ∷ 0x66 ∷ 0x48 ∷ 0x03 ∷ 0xf6 ∷ 0x0e ∷ 0x61 ∷ 0x35 ∷ 0x57 ∷ 0xb9 ∷ 0x86 ∷ 0xc1 ∷ 0x1d ∷ 0x9e
    ∷ 0xe1 ∷ 0xf8 ∷ 0x98 ∷ 0x11 ∷ 0x69 ∷ 0xd9 ∷ 0x8e ∷ 0x94 ∷ 0x9b ∷ 0x1e ∷ 0x87 ∷ 0xe9 ∷ 0xce ∷ 0x55 ∷ 0x28 ∷ 0xdf
    ∷ 0x8c ∷ 0xa1 ∷ 0x89 ∷ 0x0d ∷ 0xbf ∷ 0xe6 ∷ 0x42 ∷ 0x68 ∷ 0x41 ∷ 0x99 ∷ 0x2d ∷ 0x0f ∷ 0xb0 ∷ 0x54 ∷ 0xbb ∷ 0x16 ∷ []

s_boxes_are : s_boxes ≡ map s_box (range_with_len 0 256)
s_boxes_are = S_BOX_lem

s_boxes_at : (a : ℕ) → a < 256 → slice_index s_boxes a ≡ s_box a
s_boxes_at a lt = ap (λ (t : List ℕ). slice_index t a) s_boxes_are ∙ get_or-map-range_with_len s_box 0 256 a a 0 lt (search rules)

-- SubBytes without its constant, by the table
abbrev by_table : ℕ → ℕ
by_table x = plus_constant (slice_index s_boxes (represented x))

by_table_is : (x : ℕ) → x < 256 → by_table x ≡ plus_constant (s_box (represented x))
by_table_is x lt = ap (λ (b : ℕ). plus_constant b) (s_boxes_at (represented x) (represented_below x lt))

once_by_table : (x : ℕ) → x < 256 → represented (bit_xor (entry ONCE_LEFT (left_part x)) (entry ONCE_RIGHT (right_part x))) ≡ by_table x
unfolding represented linear sum_below
once_by_table = same_below (λ x. represented (bit_xor (entry ONCE_LEFT (left_part x)) (entry ONCE_RIGHT (right_part x)))) by_table 256 refl

pub once_is : (x : ℕ) → x < 256 → represented (bit_xor (entry ONCE_LEFT (left_part x)) (entry ONCE_RIGHT (right_part x))) ≡ plus_constant (s_box (represented x))
once_is x lt = once_by_table x lt ∙ by_table_is x lt

twice_by_table : (x : ℕ) → x < 256
    → represented (bit_xor (entry TWICE_LEFT (left_part x)) (entry TWICE_RIGHT (right_part x))) ≡ byte_product 2 (by_table x)
unfolding represented linear sum_below byte_product polynomial_product remainder
twice_by_table = same_below (λ x. represented (bit_xor (entry TWICE_LEFT (left_part x)) (entry TWICE_RIGHT (right_part x)))) (λ x. byte_product 2 (by_table x)) 256 refl

pub twice_is : (x : ℕ) → x < 256
    → represented (bit_xor (entry TWICE_LEFT (left_part x)) (entry TWICE_RIGHT (right_part x))) ≡ byte_product 2 (plus_constant (s_box (represented x)))
twice_is x lt = twice_by_table x lt ∙ ap (byte_product 2) (by_table_is x lt)

last_by_table : (x : ℕ) → x < 256 → bit_xor (entry LAST_LEFT (left_part x)) (entry LAST_RIGHT (right_part x)) ≡ by_table x
unfolding represented linear sum_below
last_by_table = same_below (λ x. bit_xor (entry LAST_LEFT (left_part x)) (entry LAST_RIGHT (right_part x))) by_table 256 refl

pub last_is : (x : ℕ) → x < 256 → bit_xor (entry LAST_LEFT (left_part x)) (entry LAST_RIGHT (right_part x)) ≡ plus_constant (s_box (represented x))
last_is x lt = last_by_table x lt ∙ by_table_is x lt

by_table_below : (x : ℕ) → x < 256 → by_table x < 256
unfolding represented linear sum_below
by_table_below = below by_table refl

pub substituted_below : (x : ℕ) → x < 256 → plus_constant (s_box (represented x)) < 256
substituted_below x lt = omega (arith, by_table_is x lt, by_table_below x lt)

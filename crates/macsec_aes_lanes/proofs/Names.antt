-- The names of other crates and of this crate's definitions that several proofs take.
pub use Rattle.std.proofs.{
  Common.{[], ◌%◌, ◌*◌, ◌++◌, ◌+◌, ◌-◌, ◌/◌, ◌<◌, ◌^◌, ◌∙◌, ◌∷◌, ◌≡◌, ◌≢◌, ◌≤◌, ◌⊎◌, ap, ap₂, arith, bit_and, bit_xor},
  Common.{get_or, get_or-set_other, get_or-set_same, inl, inr, length, length-set, List, map, min, refl, replicate},
  Common.{rules, slice_index, slice_index_or, slice_set, subst, suc, sym, w8, zero, ℕ},
  Math.Dec.T,
  lemmas.{
    Bool.cases_lt,
    List.FromFn.get_or-map-range_with_len,
    Nat.{xor_comm, xor_lt, Bits.{bit_at-lt, bit_at-zero, bit_at_and, bit_at_cat_high, bit_at_cat_low, bit_at_xor}},
    Simd.{below_from_Fits, map-map},
  },
}
pub use Rattle.std.specs.{
  Int.{bit_at, Bits.{xor_assoc, xor_zero_r}},
  List.range_with_len,
  Simd.Lanes.{Each1, pick_l, zip2},
}
pub use Rattle.macsec_aes.{
  proofs.{Products.byte_product_adds, SBox.S_BOX_lem, States.place, Tables.triple_is},
  specs.{Aes.{mixed_entry, rounds_of, schedule_of}, Field.s_box, Keys.key_bytes},
}
pub use Rattle.macsec_aes_lanes.specs.{
  AffineConstant.plus_constant,
  Lanes.{columns_right, lane_at, lane_of, rows_below, unmoved_rows_below},
  Nibbles.{block_in, byte_below, byte_shifted, entry, IsPlace, state_in, state_of},
  Planes.{AreAll, bit_of, block_of, byte_of, digit, octet, with_digit},
  RoundKeys.{AreAllMoved, moves_left, planes_of},
  Wide.{block_in_half, byte_in_half},
}
unfoldable pub use Rattle.macsec_aes.specs.{
  Aes.{add_round_key, aes, after_rounds, mix_columns, round_key, shift_rows, sub_bytes},
  Field.{byte_product, polynomial_product, remainder, sum_below},
}
unfoldable pub use Rattle.macsec_aes_lanes.specs.{
  AffineConstant.{kept_round_key, with_constant},
  Moved.rows_moved,
  Nibbles.represented,
  Planes.number,
  Tower.{linear, nibble_inverse, norm, products, sums},
}

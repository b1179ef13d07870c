-- The S-box table of the code is the S-box, by the table of inverses.
use Rattle.std.{
  proofs.Common.{◌≡◌, ℕ, ◌<◌, ◌≤◌, ◌+◌, ◌/◌, map, get_or, refl, sym, ap, ◌∙◌, inl, inr, arith, bit_xor},
  proofs.lemmas.{Bool.Decides.eqb_tells, List.FromFn.fill_by_all, Nat.xor_lt},
  specs.{Int.Bits.{xor_zero_r, xor_zero_l, xor_assoc, xor_self}, List.range_with_len},
}
use Rattle.macsec_aes.{
  proofs.{Inverses.{entries, entry, inverse_is_entry}, Tables.same_below},
  specs.{Field.{sum_below, affine_transformation, s_box}, declared.TheConstants.S_BOX},
}

S_BOX-by_entry : (a : ℕ) → a < 256 → get_or S_BOX a 0 ≡ affine_transformation (entry a)
unfolding affine_transformation sum_below entry entries
S_BOX-by_entry = same_below (λ a. get_or S_BOX a 0) (λ a. affine_transformation (entry a)) 256 refl

pub S_BOX_at : (a : ℕ) → a < 256 → get_or S_BOX a 0 ≡ s_box a
unfolding s_box
S_BOX_at a la = S_BOX-by_entry a la ∙ ap affine_transformation (sym (inverse_is_entry a la))

pub S_BOX_lem : S_BOX ≡ map s_box (range_with_len 0 256)
S_BOX_lem = fill_by_all s_box S_BOX 256 0 refl S_BOX_at

-- ---- whether two bytes differ, as a number

different_sum : (i a : ℕ) → (i ≡ a → ⊥) → 1 ≤ bit_xor i a
different_sum i a other =
    elim (eqb_tells (bit_xor i a) 0) [
      | inl none ↦ absurd (other (sym (xor_zero_r i) ∙ ap (bit_xor i) (sym (xor_self a)) ∙ sym (xor_assoc i a a) ∙ ap (λ (s : ℕ). bit_xor s a) none.1 ∙ xor_zero_l a))
      | inr some ↦ grind (arith, some.1)
    ]

pub differ_is_0 : (i a : ℕ) → i ≡ a → (bit_xor i a + 255) / 256 ≡ 0
differ_is_0 i a same = rw (same, xor_self a) refl

pub differ_is_1 : (i a : ℕ) → i < 256 → a < 256 → (i ≡ a → ⊥) → (bit_xor i a + 255) / 256 ≡ 1
differ_is_1 i a li la other = omega (arith, different_sum i a other, xor_lt 8 i a li la)

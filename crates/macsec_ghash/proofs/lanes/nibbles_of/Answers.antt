-- The octets, split into nibbles: the left ones in the first 16 lanes, the right ones after them.
use Rattle.{
  std.proofs.Common.{◌≡◌, ℕ, ◌+◌, ◌-◌, ◌/◌, ◌%◌, ◌^◌, ◌<◌, slice_index, ap, inl, inr, subst, ◌∙◌, arith},
  std.proofs.lemmas.Bool.cases_lt,
  macsec_ghash.proofs.Holds.any_octet,
}
use Rattle.macsec_ghash.proofs.lanes.nibbles_of.Goals as goal

at_start : (i : ℕ) → i ≡ 0 + i
at_start i = omega arith

pub returns-clause-left : goal.returns-clause-left
returns-clause-left c i lt =
    (c.side_by_side.ensures i lt).0 ∙ (c.left_nibbles.ensures i lt).0
    ∙ ap (λ (j : ℕ). slice_index c.args.octets j / 2 ^ 4) (at_start i)

pub returns-clause-right : goal.returns-clause-right
returns-clause-right c i lt =
    (c.side_by_side.ensures i lt).1 ∙ c.right_nibbles.ensures i lt
    ∙ ap (λ (j : ℕ). slice_index c.args.octets j % 2 ^ 4) (at_start i)

pub returns-clause-small : goal.returns-clause-small
returns-clause-small c k lt =
    elim (cases_lt k 16) [
      | inl first ↦
          let same : 0 + k ≡ k = omega arith in
          let is = (c.side_by_side.ensures k first).0 in
          let left = (c.left_nibbles.ensures k first).1 in
          let small : slice_index c.side_by_side.result (0 + k) < 16 = omega (arith, is, left) in
          subst (λ (m : ℕ). slice_index c.side_by_side.result m < 16) same small
      | inr second ↦
          let i : ℕ = k - 16 in
          let same : 16 + i ≡ k = omega arith in
          let is = (c.side_by_side.ensures i (omega arith)).1 ∙ c.right_nibbles.ensures i (omega arith) in
          let small : slice_index c.side_by_side.result (16 + i) < 16 = omega (arith, is) in
          subst (λ (m : ℕ). slice_index c.side_by_side.result m < 16) same small
    ]

pub returns-clause-octets : goal.returns-clause-octets
returns-clause-octets c = any_octet 16 c.args.octets c.fits-octets

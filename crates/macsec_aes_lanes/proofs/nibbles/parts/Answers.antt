use Rattle.macsec_aes_lanes.proofs.{
  Names.{arith, inl, slice_index},
  LookUps.{first_is_place, second_is_place, sum_is_place},
}
use Rattle.macsec_aes_lanes.proofs.nibbles.parts.Goals as goal

pub looked_up-quotient-requires : goal.looked_up-quotient-requires
looked_up-quotient-requires c k h = rw (c.right_nibbles-right.ensures k h) (inl (omega arith))

pub looked_up-requires : goal.looked_up-requires
looked_up-requires c k h =
    let small = c.left_nibbles-left.ensures.given k h in
    rw (c.left_nibbles-left.ensures.nibbles k h) (inl (omega (arith, small)))

pub looked_up-requires-2 : goal.looked_up-requires-2
looked_up-requires-2 c k h =
    rw (c.add-sum.ensures k h, c.left_nibbles-left.ensures.nibbles k h, c.right_nibbles-right.ensures k h)
    (sum_is_place (slice_index c.args.x k) (c.left_nibbles-left.ensures.given k h))

pub looked_up-requires-3 : goal.looked_up-requires-3
looked_up-requires-3 c k h =
    rw (c.add-first.ensures k h, c.looked_up.ensures k h, c.looked_up-quotient.ensures k h, c.left_nibbles-left.ensures.nibbles k h, c.right_nibbles-right.ensures k h)
    (first_is_place (slice_index c.args.x k) (c.left_nibbles-left.ensures.given k h))

pub looked_up-requires-4 : goal.looked_up-requires-4
looked_up-requires-4 c k h =
    rw (c.add-second.ensures k h, c.looked_up-2.ensures k h, c.looked_up-quotient.ensures k h, c.add-sum.ensures k h, c.left_nibbles-left.ensures.nibbles k h, c.right_nibbles-right.ensures k h)
    (second_is_place (slice_index c.args.x k) (c.left_nibbles-left.ensures.given k h))

use Rattle.macsec_aes_lanes.proofs.{Names.{arith, inl, slice_index}, LookUps.from_is}
use Rattle.macsec_aes_lanes.proofs.nibbles.representing.Goals as goal

pub looked_up-requires : goal.looked_up-requires
looked_up-requires c k h =
    let small = c.left_nibbles-left.ensures.given k h in
    rw (c.left_nibbles-left.ensures.nibbles k h) (inl (omega (arith, small)))

pub looked_up-requires-2 : goal.looked_up-requires-2
looked_up-requires-2 c k h = rw (c.right_nibbles-right.ensures k h) (inl (omega arith))

pub returns : goal.returns
returns c k h =
    rw (c.add.ensures k h, c.looked_up.ensures k h, c.looked_up-2.ensures k h, c.left_nibbles-left.ensures.nibbles k h, c.right_nibbles-right.ensures k h)
    (from_is (slice_index c.args.x k) (c.left_nibbles-left.ensures.given k h))

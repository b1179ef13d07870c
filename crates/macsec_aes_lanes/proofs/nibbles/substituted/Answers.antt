use Rattle.macsec_aes_lanes.proofs.{Names.slice_index, LookUps.{left_is_place, right_is_place, once_is, twice_is}}
use Rattle.macsec_aes_lanes.proofs.nibbles.substituted.Goals as goal

pub looked_up-requires : goal.looked_up-requires
looked_up-requires c k h = rw (c.parts.ensures.left k h) (left_is_place (slice_index c.args.x k) (c.parts.ensures.given k h))

pub looked_up-requires-2 : goal.looked_up-requires-2
looked_up-requires-2 c k h = rw (c.parts.ensures.right k h) (right_is_place (slice_index c.args.x k) (c.parts.ensures.given k h))

pub looked_up-requires-3 : goal.looked_up-requires-3
looked_up-requires-3 c k h = rw (c.parts.ensures.left k h) (left_is_place (slice_index c.args.x k) (c.parts.ensures.given k h))

pub looked_up-requires-4 : goal.looked_up-requires-4
looked_up-requires-4 c k h = rw (c.parts.ensures.right k h) (right_is_place (slice_index c.args.x k) (c.parts.ensures.given k h))

pub returns-clause-once : goal.returns-clause-once
returns-clause-once c k h =
    rw (c.add.ensures k h, c.looked_up.ensures k h, c.looked_up-2.ensures k h, c.parts.ensures.left k h, c.parts.ensures.right k h)
    (once_is (slice_index c.args.x k) (c.parts.ensures.given k h))

pub returns-clause-twice : goal.returns-clause-twice
returns-clause-twice c k h =
    rw (c.add-2.ensures k h, c.looked_up-3.ensures k h, c.looked_up-4.ensures k h, c.parts.ensures.left k h, c.parts.ensures.right k h)
    (twice_is (slice_index c.args.x k) (c.parts.ensures.given k h))

use Rattle.macsec_aes_lanes.proofs.{Names.slice_index, LookUps.{left_is_place, right_is_place, last_is}}
use Rattle.macsec_aes_lanes.proofs.nibbles.last_substituted.Goals as goal

pub looked_up-requires : goal.looked_up-requires
looked_up-requires c k h = rw (c.parts.ensures.left k h) (left_is_place (slice_index c.args.x k) (c.parts.ensures.given k h))

pub looked_up-requires-2 : goal.looked_up-requires-2
looked_up-requires-2 c k h = rw (c.parts.ensures.right k h) (right_is_place (slice_index c.args.x k) (c.parts.ensures.given k h))

pub returns : goal.returns
returns c k h =
    rw (c.add.ensures k h, c.looked_up.ensures k h, c.looked_up-2.ensures k h, c.parts.ensures.left k h, c.parts.ensures.right k h)
    (last_is (slice_index c.args.x k) (c.parts.ensures.given k h))

use Rattle.macsec_aes_lanes.proofs.{Names.{[], ◌∙◌, ◌∷◌, ◌≡◌, lane_at, lane_of}, Below.below_two, Octets.lane_of-lt}
use Rattle.macsec_aes_lanes.proofs.wide_lanes.lanes_of_two.Goals as goal

pub returns : goal.returns
returns c h lh m lm =
    c.side_by_side.ensures h lh (lane_of m) (lane_of-lt m lm)
    ∙ below_two (λ h. lane_at (c.lanes_of.result ∷ c.lanes_of-2.result ∷ []) h (lane_of m) ≡ lane_at (c.args.first ∷ c.args.second ∷ []) h m)
    (c.lanes_of.ensures m lm) (c.lanes_of-2.ensures m lm) h lh

use Rattle.macsec_aes_lanes.proofs.{
  Names.{◌<◌, ◌^◌, ◌∙◌, ap, bit_at, subst, sym, ℕ},
  Below.below_two,
  Exchanges.{raised_is, lowered_is, raised_lane, lowered_lane, raised_is_byte, lowered_is_byte},
  Holds.{holds, lane_is_byte},
}
use Rattle.macsec_aes_lanes.proofs.wide_planes.exchange.Goals as goal

pub returns-clause-bits : goal.returns-clause-bits
returns-clause-bits c j h =
    let a = holds c.args.a c.fits-a.0 in
    let b = holds c.args.b c.fits-b.0 in
    below_two _
    (λ k l. ap (λ (x : ℕ). bit_at x k) ((raised_lane c.args.d c.args.mask a b).at j h) ∙ raised_is c.args.d c.args.mask c.requires c.args.a c.args.b j k l)
    (λ k l. ap (λ (x : ℕ). bit_at x k) ((lowered_lane c.args.d c.args.mask a b).at j h) ∙ lowered_is c.args.d c.args.mask c.requires c.args.a c.args.b j k l)

pub returns-clause-made : goal.returns-clause-made
returns-clause-made c j h =
    let a = holds c.args.a c.fits-a.0 in
    let b = holds c.args.b c.fits-b.0 in (
      subst (λ (x : ℕ). x < 2 ^ 8) (sym ((raised_lane c.args.d c.args.mask a b).at j h))
          (raised_is_byte _ _ c.args.d c.args.mask (lane_is_byte c.args.a c.fits-a.0 c.fits-a.1 j h)),
      subst (λ (x : ℕ). x < 2 ^ 8) (sym ((lowered_lane c.args.d c.args.mask a b).at j h))
          (lowered_is_byte _ _ c.args.d c.args.mask (lane_is_byte c.args.b c.fits-b.0 c.fits-b.1 j h) c.ranges.mask.fits),
    )

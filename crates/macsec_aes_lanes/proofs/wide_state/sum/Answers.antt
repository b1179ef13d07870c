use Rattle.macsec_aes_lanes.proofs.{Names.refl, Gates.lanes, Octets.sum_of_bits_at}
use Rattle.macsec_aes_lanes.proofs.wide_state.sum.Goals as goal

pub returns : goal.returns
returns c k j h =
    rw (c.add.ensures j h, c.add-2.ensures j h, c.add-3.ensures j h, c.add-4.ensures j h, c.add-5.ensures j h, c.add-6.ensures j h, c.add-7.ensures j h, c.add-8.ensures j h)
    (sum_of_bits_at (lanes 8 c.args.v j) (lanes 8 c.args.w j) k refl)

use Rattle.macsec_aes_lanes.proofs.{
  Names.{byte_product, refl},
  Gates.{circuit, lanes},
  Octets.{gates_of_double, computes_double},
}
use Rattle.macsec_aes_lanes.proofs.wide_state.double.Goals as goal

pub returns : goal.returns
returns c k l j h =
    rw (c.add.ensures j h, c.add-2.ensures j h, c.add-3.ensures j h)
    (circuit 8 gates_of_double (byte_product 2) computes_double (lanes 8 c.args.v j) refl k)

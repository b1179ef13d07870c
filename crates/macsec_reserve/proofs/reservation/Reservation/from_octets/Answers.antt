use Rattle.macsec_reserve.proofs.Prelude.{◌∙◌, ap, reserved_in}
use Rattle.macsec_reserve.proofs.reservation.Reservation.from_octets.Goals as goal

pub returns : goal.returns
returns c = c.reserved_in.ensures ∙ ap reserved_in c.as_slice.ensures

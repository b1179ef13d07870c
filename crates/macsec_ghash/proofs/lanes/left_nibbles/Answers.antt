use Rattle.{std.proofs.Common.arith, macsec_ghash.proofs.Holds.{holds, holds_splat, holds_zip, octet_below, right}}
use Rattle.macsec_ghash.proofs.lanes.left_nibbles.Goals as goal

pub returns : goal.returns
returns c i lt =
    let is = (holds_zip right (holds 16 c.args.octets c.fits-octets) (holds_splat 16 4)).at i lt in
    let octet = octet_below 16 c.args.octets c.fits-octets i lt in
    (is, omega (arith, is, octet))

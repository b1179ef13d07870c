use Rattle.macsec_aes_lanes.proofs.{Names.bit_xor, Holds.{holds, holds_zip}}
use Rattle.macsec_aes_lanes.proofs.wide_lanes.add.Goals as goal

pub returns : goal.returns
returns c = (holds_zip bit_xor (holds c.args.a c.fits-a.0) (holds c.args.b c.fits-b.0)).at

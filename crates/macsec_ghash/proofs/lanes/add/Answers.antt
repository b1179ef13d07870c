use Rattle.{std.proofs.Common.bit_xor, macsec_ghash.proofs.Holds.{holds, holds_zip}}
use Rattle.macsec_ghash.proofs.lanes.add.Goals as goal

pub returns : goal.returns
returns c = (holds_zip bit_xor (holds 32 c.args.a c.fits-a) (holds 32 c.args.b c.fits-b)).at

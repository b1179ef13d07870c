use Rattle.{std.proofs.Common.{◌+◌, ◌∙◌, arith}, macsec_ghash.proofs.{Holds.octet_below, Octets.number_of_octets}}
use Rattle.macsec_ghash.proofs.lanes.number_of.Goals as goal

pub returns : goal.returns
returns c = c.from_be_bytes.ensures ∙ number_of_octets c.args.octets (λ i h. octet_below 16 c.args.octets c.fits-octets (0 + i) (omega arith))

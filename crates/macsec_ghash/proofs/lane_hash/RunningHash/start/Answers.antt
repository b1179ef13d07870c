use Rattle.{std.proofs.Common.refl, macsec_ghash.specs.Ghash.ghash}
use Rattle.macsec_ghash.proofs.lane_hash.RunningHash.start.Goals as goal

pub returns : goal.returns
unfolding ghash
returns c = λ h. record { hash = refl }

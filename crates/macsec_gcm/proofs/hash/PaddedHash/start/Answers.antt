use Rattle.{std.proofs.Common.{[], refl}, macsec_ghash.specs.Ghash.{blocks_of, pad}}
use Rattle.macsec_gcm.proofs.hash.PaddedHash.start.Goals as goal

pub returns : goal.returns
unfolding pad blocks_of
returns c = record { whole = []; is_whole = refl; text_is = refl; key_is = refl; hashed = c.start.ensures c.args.powers.now }

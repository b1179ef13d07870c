use Rattle.std.proofs.Common.{length-append}
use Rattle.macsec_gcm.proofs.pieces.Unlocked.data.Goals as goal

pub returns : goal.returns
returns c = λ key iv ciphertext at.
    (record { rest = rw (length-append ciphertext c.args.piece.now) (c.add_to.ensures.moves key _ _ at.rest) }, c.add_to.ensures.adds key _ ciphertext at.rest)

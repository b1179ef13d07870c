use Rattle.{std.proofs.Common.length-append, macsec_gcm.specs.Gcm.seal_of}
use Rattle.macsec_gcm.proofs.pieces.Sealer.data.Goals as goal

pub returns : goal.returns
unfolding seal_of
returns c = λ key iv aad plaintext at.
    let piece = c.args.piece.now in
    let adds = c.add_to.ensures.adds key _ plaintext at.stream in
    let moved = c.add_to.ensures.moves key _ _ at.stream in (
      record {
        stream = rw (length-append plaintext piece) moved;
        authenticator = rw adds (c.ciphertext.ensures key _ aad _ at.authenticator);
      },
      adds,
    )

use Rattle.macsec_gcm.proofs.pieces.Opener.check.Goals as goal

pub returns : goal.returns
returns c = λ key iv aad ciphertext at. record { stream = at.stream; authenticator = c.ciphertext.ensures key _ aad ciphertext at.authenticator }

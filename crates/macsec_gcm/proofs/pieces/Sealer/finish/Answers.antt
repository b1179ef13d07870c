use Rattle.{
  std.proofs.Common.arith,
  macsec_gcm.{proofs.KeyStreams.length-gctr, specs.Gcm.{inc32, pre_counter_block, seal_of}},
}
use Rattle.macsec_gcm.proofs.pieces.Sealer.finish.Goals as goal

pub returns : goal.returns
unfolding seal_of
returns c = λ key iv aad plaintext at aad_fits plaintext_fits.
    c.tag.ensures key _ aad _ at.authenticator aad_fits (omega (arith, length-gctr key (inc32 (pre_counter_block iv)) plaintext))

use Rattle.macsec_gcm.proofs.Opening.{length-ciphertext, length-tag}
use Rattle.macsec_gcm.proofs.laws.sealed_lengths.Goals as goal

pub returns : goal.returns
returns c = record { ciphertext = length-ciphertext; tag = length-tag }

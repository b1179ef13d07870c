-- An inverse is a byte, and it is the only one. Proved from the lemmas of `Inverses`, which are computed over all
-- bytes.
use Rattle.macsec_aes.proofs.Inverses.{inverse_is_byte, one_inverse}
use Rattle.macsec_aes.proofs.laws.one_inverse.Goals as goal

pub returns-clause-byte : goal.returns-clause-byte
returns-clause-byte c = inverse_is_byte

pub returns-clause-only : goal.returns-clause-only
returns-clause-only c = one_inverse

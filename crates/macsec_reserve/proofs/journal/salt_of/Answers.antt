use Rattle.macsec_reserve.proofs.Prelude.{rules}
use Rattle.macsec_reserve.proofs.journal.salt_of.Goals as goal

pub returns : goal.returns
returns c = search rules

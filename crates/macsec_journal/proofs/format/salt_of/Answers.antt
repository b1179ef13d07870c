use Rattle.std.proofs.Common.{rules}
use Rattle.macsec_journal.proofs.format.salt_of.Goals as goal

pub returns : goal.returns
returns c = search rules

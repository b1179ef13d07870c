use Rattle.std.proofs.Common.{refl}
use Rattle.macsec_suite.proofs.key_table.KeyTable.key.Goals as goal

pub returns-clause-row : goal.returns-clause-row
returns-clause-row c = rw c.in_ok-stored.ensures.row refl

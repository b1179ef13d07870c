use Rattle.std.proofs.Common.{refl}
use Rattle.macsec_suite.proofs.key_table.KeyTable.first_unused.Goals as goal

pub returns : goal.returns
returns c = rw c.in_ok-stored.ensures.row refl

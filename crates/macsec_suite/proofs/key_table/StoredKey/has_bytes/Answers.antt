use Rattle.std.proofs.Common.{rules}
use Rattle.macsec_suite.proofs.key_table.StoredKey.has_bytes.Goals as goal

pub returns : goal.returns
returns c = search rules

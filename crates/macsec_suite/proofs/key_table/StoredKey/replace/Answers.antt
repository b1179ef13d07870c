-- The row has the new octets and is otherwise the same, and the key is prepared from them.
use Rattle.{std.proofs.Common.{refl, ap}, macsec_suite.specs.Keys.PreparedKey}
use Rattle.macsec_suite.proofs.key_table.StoredKey.replace.Goals as goal

pub returns-clause-row : goal.returns-clause-row
returns-clause-row c = rw c.replace.ensures refl

pub returns-clause-prepared : goal.returns-clause-prepared
returns-clause-prepared c own =
    let offset = ap (λ (k : PreparedKey). k.offset) own.0 in
    rw c.replace.ensures (rw offset refl, own.1)

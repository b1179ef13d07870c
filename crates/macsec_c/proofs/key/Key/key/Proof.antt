-- `key` returns a borrow of the key, and the handle has the value that the borrow leaves.
use Rattle.macsec_c.proofs.{HandleLends.lends, Handles.{key as handle}, key.Key.key.Statement.statement}
use Rattle.macsec_c.specs.contracts.key.Key.key.Key.{name}
use Rattle.macsec_c.proofs.key.Key.key.Code as code

pub key_spec : {M : Type 1} → statement M
key_spec 𝓤 𝓛 𝓜 𝓡 wired = lends handle _ 𝓤 𝓛 𝓜 𝓡 name (code.unfolded 𝓤 𝓛.H 𝓜 𝓡 wired)

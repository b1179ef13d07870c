-- `put` stores the pointer, and the handle owns the key that it points to.
use Rattle.macsec_c.proofs.{HandlePut.put, Handles.{key as handle}, key.Key.put.Statement.statement}
use Rattle.macsec_c.specs.contracts.key.Key.put.Key.{name}
use Rattle.macsec_c.proofs.key.Key.put.Code as code

pub put_spec : {M : Type 1} → statement M
put_spec 𝓤 𝓛 𝓜 𝓡 wired = put handle _ 𝓤 𝓛 𝓜 𝓡 name (code.unfolded 𝓤 𝓛.H 𝓜 𝓡 wired)

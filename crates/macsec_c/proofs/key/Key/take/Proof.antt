-- `take` returns the pointer and what it owns, and leaves null.
use Rattle.macsec_c.proofs.{HandleTake.take, Handles.{key as handle}, key.Key.take.Statement.statement}
use Rattle.macsec_c.specs.contracts.key.Key.take.Key.{name}
use Rattle.macsec_c.proofs.key.Key.take.Code as code

pub take_spec : {M : Type 1} → statement M
take_spec 𝓤 𝓛 𝓜 𝓡 wired = take handle _ 𝓤 𝓛 𝓜 𝓡 name (code.unfolded 𝓤 𝓛.H 𝓜 𝓡 wired)

-- `is_made` says whether the handle holds a key.
use Rattle.macsec_c.proofs.{HandleIsMade.is_made, Handles.{key as handle}, key.Key.is_made.Statement.statement}
use Rattle.macsec_c.specs.contracts.key.Key.is_made.Key.{name}
use Rattle.macsec_c.proofs.key.Key.is_made.Code as code

pub is_made_spec : {M : Type 1} → statement M
is_made_spec 𝓤 𝓛 𝓜 𝓡 wired = is_made handle _ 𝓤 𝓛 𝓜 𝓡 name (code.unfolded 𝓤 𝓛.H 𝓜 𝓡 wired)

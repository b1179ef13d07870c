-- `put` stores the pointer, and the handle owns the slot that it points to.
use Rattle.macsec_c.proofs.{HandlePut.put, Handles.{slot as handle}, slot.Slot.put.Statement.statement}
use Rattle.macsec_c.specs.contracts.slot.Slot.put.Key.{name}
use Rattle.macsec_c.proofs.slot.Slot.put.Code as code

pub put_spec : {M : Type 1} → statement M
put_spec 𝓤 𝓛 𝓜 𝓡 wired = put handle _ 𝓤 𝓛 𝓜 𝓡 name (code.unfolded 𝓤 𝓛.H 𝓜 𝓡 wired)

-- `slot` returns a borrow of the slot, and the handle has the value that the borrow leaves.
use Rattle.macsec_c.proofs.{HandleLends.lends, Handles.{slot as handle}, slot.Slot.slot.Statement.statement}
use Rattle.macsec_c.specs.contracts.slot.Slot.slot.Key.{name}
use Rattle.macsec_c.proofs.slot.Slot.slot.Code as code

pub slot_spec : {M : Type 1} → statement M
slot_spec 𝓤 𝓛 𝓜 𝓡 wired = lends handle _ 𝓤 𝓛 𝓜 𝓡 name (code.unfolded 𝓤 𝓛.H 𝓜 𝓡 wired)

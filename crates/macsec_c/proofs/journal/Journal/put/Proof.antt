-- `put` stores the pointer, and the handle owns the journal that it points to.
use Rattle.macsec_c.proofs.{HandlePut.put, Handles.{journal as handle}, journal.Journal.put.Statement.statement}
use Rattle.macsec_c.specs.contracts.journal.Journal.put.Key.{name}
use Rattle.macsec_c.proofs.journal.Journal.put.Code as code

pub put_spec : {M : Type 1} → statement M
put_spec 𝓤 𝓛 𝓜 𝓡 wired = put handle _ 𝓤 𝓛 𝓜 𝓡 name (code.unfolded 𝓤 𝓛.H 𝓜 𝓡 wired)

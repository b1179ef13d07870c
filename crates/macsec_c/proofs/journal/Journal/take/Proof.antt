-- `take` returns the pointer and what it owns, and leaves null.
use Rattle.macsec_c.proofs.{HandleTake.take, Handles.{journal as handle}, journal.Journal.take.Statement.statement}
use Rattle.macsec_c.specs.contracts.journal.Journal.take.Key.{name}
use Rattle.macsec_c.proofs.journal.Journal.take.Code as code

pub take_spec : {M : Type 1} → statement M
take_spec 𝓤 𝓛 𝓜 𝓡 wired = take handle _ 𝓤 𝓛 𝓜 𝓡 name (code.unfolded 𝓤 𝓛.H 𝓜 𝓡 wired)

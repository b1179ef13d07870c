-- `journal` returns a borrow of the journal, and the handle has the value that the borrow leaves.
use Rattle.macsec_c.proofs.{HandleLends.lends, Handles.{journal as handle}, journal.Journal.journal.Statement.statement}
use Rattle.macsec_c.specs.contracts.journal.Journal.journal.Key.{name}
use Rattle.macsec_c.proofs.journal.Journal.journal.Code as code

pub journal_spec : {M : Type 1} → statement M
journal_spec 𝓤 𝓛 𝓜 𝓡 wired = lends handle _ 𝓤 𝓛 𝓜 𝓡 name (code.unfolded 𝓤 𝓛.H 𝓜 𝓡 wired)

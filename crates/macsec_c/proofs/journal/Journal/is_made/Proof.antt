-- `is_made` says whether the handle holds a journal.
use Rattle.macsec_c.proofs.{
  HandleIsMade.is_made,
  Handles.{journal as handle},
  journal.Journal.is_made.Statement.statement,
}
use Rattle.macsec_c.specs.contracts.journal.Journal.is_made.Key.{name}
use Rattle.macsec_c.proofs.journal.Journal.is_made.Code as code

pub is_made_spec : {M : Type 1} → statement M
is_made_spec 𝓤 𝓛 𝓜 𝓡 wired = is_made handle _ 𝓤 𝓛 𝓜 𝓡 name (code.unfolded 𝓤 𝓛.H 𝓜 𝓡 wired)

use Rattle.macsec_reserve.proofs.Prelude.{◌≡◌, drop, has_entry}
use Rattle.macsec_reserve.proofs.entries.has_entry.Given as goal

-- no entry before the index has the name
abbrev pub invariant-loop-entry : goal.invariant-loop-entry
invariant-loop-entry l = has_entry l.entries l.name ≡ has_entry (drop l.entry-index l.entries) l.name

use Rattle.macsec_reserve.proofs.Prelude.{◌≡◌, reduced, reserved_within}
use Rattle.macsec_reserve.proofs.journal.entries_of.Given as goal

abbrev pub invariant-loop-k : goal.invariant-loop-k
invariant-loop-k l = l.found.items ≡ reduced (reserved_within l.k l.journal)

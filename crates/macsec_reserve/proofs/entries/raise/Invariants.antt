use Rattle.macsec_reserve.proofs.Prelude.{◌++◌, ◌≡◌, drop, map, raised_by, take}
use Rattle.macsec_reserve.proofs.entries.raise.Given as goal

-- the entries before the index are raised, and the others are unchanged
abbrev pub invariant-loop-reserved : goal.invariant-loop-reserved
invariant-loop-reserved l = l.entries ≡ map (raised_by l.by) (take l.reserved-index l.initial.entries) ++ drop l.reserved-index l.initial.entries

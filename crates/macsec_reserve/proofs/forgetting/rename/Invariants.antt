use Rattle.macsec_reserve.proofs.Prelude.{◌++◌, ◌≡◌, drop, map, renamed, take}
use Rattle.macsec_reserve.proofs.forgetting.rename.Given as goal

-- the names before the index are as afterwards, and the others are unchanged
abbrev pub invariant-loop-named : goal.invariant-loop-named
invariant-loop-named l = l.names ≡ map (renamed l.number l.name) (take l.named-index l.initial.names) ++ drop l.named-index l.initial.names

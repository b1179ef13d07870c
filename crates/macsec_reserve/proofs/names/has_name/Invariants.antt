use Rattle.macsec_reserve.proofs.Prelude.{◌≡◌, drop}
use Rattle.macsec_reserve.specs.Renewing.{has_name}
use Rattle.macsec_reserve.proofs.names.has_name.Given as goal

-- no name before the index is the name
abbrev pub invariant-loop-other : goal.invariant-loop-other
invariant-loop-other l = has_name l.names l.name ≡ has_name (drop l.other-index l.names) l.name

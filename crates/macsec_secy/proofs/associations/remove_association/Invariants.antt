use Rattle.macsec_secy.proofs.Names.{◌++◌, ◌≡◌, at_channel, drop, map, take, without_association}
use Rattle.macsec_secy.proofs.associations.remove_association.Given as goal

-- of the SCs before the index, those with the SCI are changed; the others are unchanged
abbrev pub invariant-loop-row : goal.invariant-loop-row
invariant-loop-row l = l.rows ≡ map (at_channel (without_association l.an) l.sci) (take l.row-index l.initial.rows) ++ drop l.row-index l.initial.rows

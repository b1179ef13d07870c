use Rattle.macsec_secy.proofs.Names.{◌++◌, ◌≡◌, at_channel, drop, map, take, with_association}
use Rattle.macsec_secy.proofs.associations.add_association.Given as goal

-- of the SCs before the index, those with the SCI are changed; the others are unchanged
abbrev pub invariant-loop-row : goal.invariant-loop-row
invariant-loop-row l = l.rows ≡ map (at_channel (with_association l.an) l.sci) (take l.row-index l.initial.rows) ++ drop l.row-index l.initial.rows

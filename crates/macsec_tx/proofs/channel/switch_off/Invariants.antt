use Rattle.{std.proofs.Common.{◌≡◌, ◌++◌, map, take, drop}, macsec_tx.specs.Commands.off_at}
use Rattle.macsec_tx.proofs.channel.switch_off.Given as goal

-- the rows before the index are disabled if they have the number, and the others are unchanged
abbrev pub invariant-loop-row : goal.invariant-loop-row
invariant-loop-row l = l.rows ≡ map (off_at l.an) (take l.row-index l.initial.rows) ++ drop l.row-index l.initial.rows

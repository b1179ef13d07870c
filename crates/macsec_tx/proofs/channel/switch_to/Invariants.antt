use Rattle.{std.proofs.Common.{◌≡◌, ◌++◌, map, take, drop}, macsec_tx.specs.Commands.switch_to}
use Rattle.macsec_tx.proofs.channel.switch_to.Given as goal

-- the rows before the index are enabled or disabled, and the others are unchanged
abbrev pub invariant-loop-row : goal.invariant-loop-row
invariant-loop-row l = l.rows ≡ map (switch_to l.an) (take l.row-index l.initial.rows) ++ drop l.row-index l.initial.rows

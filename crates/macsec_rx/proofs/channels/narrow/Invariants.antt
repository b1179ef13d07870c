use Rattle.{std.proofs.Common.{◌≡◌, ◌++◌, map, take, drop}, macsec_rx.specs.Commands.row_narrowed}
use Rattle.macsec_rx.proofs.channels.narrow.Given as goal

-- the rows before the index are narrowed, and the others are unchanged
abbrev pub invariant-loop-row : goal.invariant-loop-row
invariant-loop-row l = l.rows ≡ map (row_narrowed l.window) (take l.row-index l.initial.rows) ++ drop l.row-index l.initial.rows

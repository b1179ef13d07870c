use Rattle.{std.proofs.Common.{◌≡◌, drop}, macsec_ahead.specs.Ends.{ends_among, with_ends}}
use Rattle.macsec_ahead.proofs.keeper.add_each_end.Given as goal

-- the table with the ends of the other SAs is the table with all of them
abbrev pub invariant-loop-row : goal.invariant-loop-row
invariant-loop-row l = with_ends (ends_among l.secy l.rows) l.initial.ended ≡ with_ends (ends_among l.secy (drop l.row-index l.rows)) l.ended

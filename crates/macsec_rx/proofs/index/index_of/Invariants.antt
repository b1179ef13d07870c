use Rattle.{std.proofs.Common.{◌≡◌, length, take}, macsec_rx.specs.Index.IsIndex}
use Rattle.macsec_rx.proofs.index.index_of.Given as goal

-- the SAs before the loop's position are in the index
abbrev pub invariant-loop-place : goal.invariant-loop-place
invariant-loop-place l = IsIndex l.scis (take l.place l.rows) l.places

use Rattle.std.{proofs.Common.{◌≤◌, ◌-◌, length, take}, specs.Io.KnownBytes.Consumes}
use Rattle.macsec_pcap.proofs.filling.fill.Given as goal

-- the buffer begins with what the source has returned so far
abbrev pub invariant-loop-filled : goal.invariant-loop-filled
invariant-loop-filled g l =
    (l.filled ≤ length l.room)
    × Consumes (g.R.Read.remaining l.initial.source) (g.R.Read.remaining l.source) (take l.filled l.room)

abbrev pub decreases-loop-filled : goal.decreases-loop-filled
decreases-loop-filled g l = length l.initial.room - l.filled

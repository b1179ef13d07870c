use Rattle.{std.proofs.Common.{◌≤◌, ◌-◌}, macsec_pcapng.proofs.TakenOctets.IsPast}
use Rattle.macsec_pcapng.proofs.octets.skip_pieces.Given as goal

-- as many octets were skipped as the count has decreased by
abbrev pub invariant-loop-left : goal.invariant-loop-left
invariant-loop-left g l = (l.left ≤ l.count) × IsPast (g.R.Read.remaining l.initial.source) (g.R.Read.remaining l.source) (l.count - l.left)

abbrev pub decreases-loop-left : goal.decreases-loop-left
decreases-loop-left g l = l.left

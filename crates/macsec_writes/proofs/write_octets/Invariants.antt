use Rattle.macsec_writes.proofs.OnTheWay.{IsOnTheWay}
use Rattle.macsec_writes.proofs.write_octets.Given as goal

-- the octets before the rest were written
abbrev pub invariant-loop : goal.invariant-loop
invariant-loop g l = IsOnTheWay (g.W.Write.contents l.initial.destination) (g.W.Write.contents l.destination) l.octets l.rest

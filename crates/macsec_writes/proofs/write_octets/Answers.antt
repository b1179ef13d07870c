use Rattle.std.proofs.Common.{◌≡◌, [], drop_of_length-le, rules}
use Rattle.macsec_writes.proofs.{
  OnTheWay.{all_written, front_written, more_written, still_written},
  write_octets.Goals.{in-Ok, in-Err},
}
use Rattle.macsec_writes.proofs.write_octets.Goals as goal

pub loop-preserved : goal.loop-preserved
loop-preserved g c = elim c.match-write.branch [
  | in-Ok w ↦ rw w.rest-is (more_written _ _ _ _ c.loop.rest.now w.in-Ok.count c.loop.invariant w.in-Ok.ensures.bytes)
  | in-Err w ↦ rw w.rest-is (still_written _ _ _ _ _ c.loop.invariant w.in-Err.ensures.bytes)
]

pub returns-then-is_empty-clause-whole : goal.returns-then-is_empty-clause-whole
returns-then-is_empty-clause-whole g c =
    let empty : c.loop.rest.now ≡ [] = drop_of_length-le c.loop.rest.now {i = 0} (search rules) in
    all_written _ _ _ c.loop.rest.now c.loop.invariant empty

pub returns-in-Ok-eq0-clause-cut : goal.returns-in-Ok-eq0-clause-cut
returns-in-Ok-eq0-clause-cut g c =
    let taken = rw c.in-Ok-eq0.is at c.write.ensures.bytes in
    front_written _ _ _ _ (more_written _ _ _ _ _ _ c.loop.invariant taken)

pub returns-in-Err-2-clause-cut : goal.returns-in-Err-2-clause-cut
returns-in-Err-2-clause-cut g c =
    front_written _ _ _ _ (still_written _ _ _ _ _ c.loop.invariant c.in-Err-2.ensures.bytes)

pub returns-clause-cut : goal.returns-clause-cut
returns-clause-cut g c = front_written _ _ _ _ c.loop.invariant

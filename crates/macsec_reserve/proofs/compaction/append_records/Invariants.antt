use Rattle.macsec_reserve.proofs.Prelude.{◌++◌, ◌≡◌, records_of, take}
use Rattle.macsec_reserve.proofs.compaction.append_records.Given as goal

-- the records before the index are appended
abbrev pub invariant-loop-reservation : goal.invariant-loop-reservation
invariant-loop-reservation l = l.out.items ≡ l.initial.out.items ++ records_of (take l.reservation-index l.reservations)

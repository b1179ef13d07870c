use Rattle.macsec_reserve.proofs.WrittenRecords.{records_more}
use Rattle.macsec_reserve.proofs.compaction.append_records.Goals as goal

pub loop-reservation-preserved : goal.loop-reservation-preserved
loop-reservation-preserved c =
    records_more _ _ _ _ _ _ c.loop-reservation-test.true c.loop-reservation.invariant c.in_ok-append_to.ensures

use Rattle.macsec_capture.proofs.Whole.{flushed, flushed_some}
use Rattle.macsec_capture.proofs.running.write_and_flush.Goals as goal

pub returns-clause-run : goal.returns-clause-run
returns-clause-run g c = rw c.records_end.ensures (flushed _ _ _ _ _ _ _ _ _ c.flush-flushed.ensures.bytes _ _ c.write_output-written.ensures.run)

pub returns-clause-some : goal.returns-clause-some
returns-clause-some g c = rw c.records_end.ensures (flushed_some _ _ _ _ _ _ _ _ c.flush-flushed.ensures.bytes _ _ c.write_output-written.ensures.some)

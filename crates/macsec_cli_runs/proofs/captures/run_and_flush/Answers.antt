-- The clauses of the run, carried over the flush of the text.
use Rattle.macsec_cli_runs.proofs.Flushed.{flushed, flushed_some, unwritten}
use Rattle.macsec_cli_runs.proofs.captures.run_and_flush.Goals as goal

pub returns-clause-run : goal.returns-clause-run
returns-clause-run g c = (
  c.capture_end.result,
  c.reported.ensures,
  rw c.capture_end.ensures (flushed c.args.direction (g.C.Read.remaining c.args.config.now) (g.R.Read.remaining c.args.input.now) _ _ _ _
      c.flush-flushed.ensures.bytes c.run_capture-done.result _ c.run_capture-done.ensures.run),
)

pub returns-clause-unwritten : goal.returns-clause-unwritten
returns-clause-unwritten g c = (
  c.capture_end.result,
  c.reported.ensures,
  rw c.capture_end.ensures (unwritten _ _ _ _ c.flush-flushed.ensures.bytes c.run_capture-done.result _ c.run_capture-done.ensures.unwritten),
)

pub returns-clause-some : goal.returns-clause-some
returns-clause-some g c = (
  c.capture_end.result,
  c.reported.ensures,
  rw c.capture_end.ensures (flushed_some c.args.direction (g.C.Read.remaining c.args.config.now) _ _ _ _ c.flush-flushed.ensures.bytes
      c.run_capture-done.result _ c.run_capture-done.ensures.some),
)

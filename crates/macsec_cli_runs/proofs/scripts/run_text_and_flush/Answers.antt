-- The clauses of the run, carried over the flush of its text.
use Rattle.macsec_cli_runs.proofs.FlushedText.{flushed_promised, flushed_text, flushed_then, flushed_unwritten}
use Rattle.macsec_cli_runs.proofs.scripts.run_text_and_flush.Goals as goal

pub returns-clause-run : goal.returns-clause-run
returns-clause-run g c =
    flushed_text c.args.script.now (g.W.Write.contents c.args.writer.now) _ _ c.flush-flushed.ensures.bytes c.run_text-done.result c.flush-flushed.result c.run_end.result c.run_end.ensures c.run_text-done.ensures.run

pub returns-clause-unwritten : goal.returns-clause-unwritten
returns-clause-unwritten g c =
    flushed_unwritten _ _ _ c.flush-flushed.ensures.bytes c.run_text-done.result c.flush-flushed.result c.run_end.result c.run_end.ensures c.run_text-done.ensures.unwritten

pub returns-clause-promised : goal.returns-clause-promised
returns-clause-promised g c = flushed_promised _ c.run_text-done.result c.flush-flushed.result c.run_end.result c.run_end.ensures c.run_text-done.ensures.promised

pub returns-clause-promised_before : goal.returns-clause-promised_before
returns-clause-promised_before g c =
    let it = c.run_text-done.ensures in
    flushed_then c.args.script.now _ _ _ c.flush-flushed.ensures.bytes c.run_text-done.result c.flush-flushed.result c.run_end.result c.run_end.ensures it.promised
    it.promised_before

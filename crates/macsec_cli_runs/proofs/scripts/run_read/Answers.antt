-- What the run ensures of the text that was read holds of all that the reader had, if that is known, and of some text.
use Rattle.{
  std.proofs.{Common.inl, KnownBytes.Keeps-refl, lemmas.Result.err_from_is_err_and},
  macsec_script.proofs.{Promised.promised_over, Unwritten.{carried_over, unread}},
  macsec_cli_runs.proofs.FlushedText.of_text,
}
use Rattle.macsec_cli_runs.proofs.scripts.run_read.Goals as goal

pub returns-in_err-text-clause-run : goal.returns-in_err-text-clause-run
returns-in_err-text-clause-run g c =
    let p = err_from_is_err_and c.from_residual.result c.from_residual.ensures.1 in
    rw (p.1, p.2) (unread _ _ _ c.in_err-text.ensures.text)

pub returns-in_err-text-clause-some_text : goal.returns-in_err-text-clause-some_text
returns-in_err-text-clause-some_text g c =
    let p = err_from_is_err_and c.from_residual.result c.from_residual.ensures.1 in
    rw (p.1, p.2) (inl (c.in_err-text.ensures.fits, Keeps-refl _))

pub returns-clause-run : goal.returns-clause-run
returns-clause-run g c =
    carried_over _ c.in_ok-text.text.items _ _ c.in_ok-text.ensures.text c.as_slice.ensures.value c.run_text_and_flush.ensures.run

pub returns-clause-promised : goal.returns-clause-promised
returns-clause-promised g c =
    promised_over _ c.in_ok-text.text.items _ c.in_ok-text.ensures.text c.as_slice.ensures.value c.run_text_and_flush.result c.run_text_and_flush.ensures.promised

pub returns-clause-some_text : goal.returns-clause-some_text
returns-clause-some_text g c =
    of_text c.in_ok-text.text.items _ _ _ c.run_text_and_flush.result c.in_ok-text.ensures.fits c.as_slice.ensures.value
    c.run_text_and_flush.ensures.run c.run_text_and_flush.ensures.promised c.run_text_and_flush.ensures.promised_before

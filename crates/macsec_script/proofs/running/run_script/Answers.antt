-- What `run_text` ensures of the text that was read holds of all that the reader had, if that is known.
use Rattle.{
  std.proofs.lemmas.Result.err_from_is_err_and,
  macsec_script.proofs.{Promised.{before_over, nothing_read, promised_over}, Unwritten.{carried_over, unread}},
}
use Rattle.macsec_script.proofs.running.run_script.Goals as goal

pub returns-in_err-text-clause-run : goal.returns-in_err-text-clause-run
returns-in_err-text-clause-run g c =
    let p = err_from_is_err_and c.from_residual.result c.from_residual.ensures.1 in
    rw (p.1, p.2) (unread _ _ _ c.in_err-text.ensures.text)

pub returns-clause-run : goal.returns-clause-run
returns-clause-run g c = carried_over _ c.in_ok-text.text.items _ _ c.in_ok-text.ensures.text c.as_slice.ensures.value c.run_text.ensures.run

pub returns-clause-promised : goal.returns-clause-promised
returns-clause-promised g c = promised_over _ c.in_ok-text.text.items _ c.in_ok-text.ensures.text c.as_slice.ensures.value c.run_text.result c.run_text.ensures.promised

pub returns-clause-promised_before : goal.returns-clause-promised_before
returns-clause-promised_before g c =
    before_over _ c.in_ok-text.text.items _ c.in_ok-text.ensures.text c.as_slice.ensures.value _ _ c.run_text.result c.run_text.ensures.promised_before

pub returns-in_err-text-clause-promised_before : goal.returns-in_err-text-clause-promised_before
returns-in_err-text-clause-promised_before g c =
    let p = err_from_is_err_and c.from_residual.result c.from_residual.ensures.1 in
    rw (p.1, p.2) (nothing_read _ _ _ c.in_err-text.ensures.fits)

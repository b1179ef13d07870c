use Rattle.{
  std.proofs.lemmas.Result.err_from_is_err_and,
  macsec_capture.proofs.Configured.{left_both, no_text, of_text, some_text, unread},
}
use Rattle.macsec_capture.proofs.running.run_capture.Goals as goal

pub returns-in_err-config-clause-run : goal.returns-in_err-config-clause-run
returns-in_err-config-clause-run g c =
    let p = err_from_is_err_and c.from_residual.result c.from_residual.ensures.1 in
    rw (p.1, p.2) (unread _ _ _ _ _ c.in_err-config.ensures.text)

pub returns-in_err-config-clause-some : goal.returns-in_err-config-clause-some
returns-in_err-config-clause-some g c =
    let p = err_from_is_err_and c.from_residual.result c.from_residual.ensures.1 in
    rw (p.1, p.2) (no_text _ _ _ _ c.in_err-config.ensures.fits)

pub returns-in_err-config-clause-unwritten : goal.returns-in_err-config-clause-unwritten
returns-in_err-config-clause-unwritten g c =
    let p = err_from_is_err_and c.from_residual.result c.from_residual.ensures.1 in
    rw (p.1, p.2) (left_both _ _)

pub returns-clause-run : goal.returns-clause-run
returns-clause-run g c = of_text _ _ _ _ c.in_ok-config.ensures.text c.as_slice.ensures.value c.run_config.ensures.run

pub returns-clause-some : goal.returns-clause-some
returns-clause-some g c =
    some_text _ _ _ _ _ _ _ c.in_ok-config.ensures.text c.in_ok-config.ensures.fits c.as_slice.ensures.value c.run_config.ensures.config c.run_config.ensures.some

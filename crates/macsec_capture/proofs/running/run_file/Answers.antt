use Rattle.{
  std.proofs.{Common.Ok, lemmas.Result.err_from_is_err_and},
  macsec_capture.proofs.Whole.{opened_gives, unopened, unopened_some},
}
use Rattle.macsec_capture.proofs.running.run_file.Goals as goal

pub returns-in_err-reader-clause-run : goal.returns-in_err-reader-clause-run
returns-in_err-reader-clause-run g c =
    let p = err_from_is_err_and c.from_residual.result c.from_residual.ensures.1 in
    rw (p.1, p.2) (unopened c.faults_are_of_format.ensures _ _ _ _ _ c.in_err-reader.ensures.opened)

pub returns-in_err-reader-clause-some : goal.returns-in_err-reader-clause-some
returns-in_err-reader-clause-some g c =
    let p = err_from_is_err_and c.from_residual.result c.from_residual.ensures.1 in
    rw (p.1, p.2) (unopened_some _ _ _ _)

pub returns-clause-run : goal.returns-clause-run
returns-clause-run g c = opened_gives _ _ _ _ _ _ _ c.in_ok-reader.ensures.opened c.run_opened.ensures.run

pub returns-clause-some : goal.returns-clause-some
returns-clause-some g c = (Ok c.run_opened.ensures.some.0, c.run_opened.ensures.some.1)

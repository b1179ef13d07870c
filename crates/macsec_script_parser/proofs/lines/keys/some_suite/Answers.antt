-- The suite that was read, or its fault.
use Rattle.{
  std.proofs.{Common.{sym, ap, ◌∙◌, Some, Err}, lemmas.Result.err_from_is_err_and},
  macsec_script_parser.specs.Fields.map_ok,
}
use Rattle.macsec_script_parser.proofs.lines.keys.some_suite.Goals as goal

pub returns-in_err-suite : goal.returns-in_err-suite
returns-in_err-suite c =
    let p = err_from_is_err_and c.from_residual.result c.from_residual.ensures.1 in
    p.1 ∙ ap Err p.2 ∙ ap (map_ok Some) (sym c.in_err-suite.was ∙ c.suite.ensures)

pub returns : goal.returns
returns c = ap (map_ok Some) (sym c.in_ok-suite.was ∙ c.suite.ensures)

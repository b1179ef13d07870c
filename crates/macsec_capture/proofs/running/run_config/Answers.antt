use Rattle.std.proofs.{Common.{◌≡◌, rules}, lemmas.Result.err_from_is_err_and}
use Rattle.macsec_capture.{
  proofs.Configured.{is_parsed, judged, left_both, misjudged, parsed_known, parsed_some, unparsed, unparsed_some},
  specs.Runs.known,
}
use Rattle.macsec_capture.proofs.running.run_config.Goals as goal

pub returns-in_err-config-clause-config : goal.returns-in_err-config-clause-config
returns-in_err-config-clause-config g c =
    let p = err_from_is_err_and c.from_residual.result c.from_residual.ensures.1 in
    rw (p.1, p.2) (misjudged c.args.config.now _ c.in_err-config.ensures)

pub returns-in_err-config-clause-run : goal.returns-in_err-config-clause-run
returns-in_err-config-clause-run g c =
    let p = err_from_is_err_and c.from_residual.result c.from_residual.ensures.1 in
    rw (p.1, p.2) (unparsed c.args.direction c.args.config.now (g.R.Read.remaining c.args.input.now) (known (g.W.Write.contents c.args.output.now) (g.T.Write.contents c.args.text.now)) _ c.in_err-config.ensures)

pub returns-in_err-config-clause-some : goal.returns-in_err-config-clause-some
returns-in_err-config-clause-some g c =
    let p = err_from_is_err_and c.from_residual.result c.from_residual.ensures.1 in
    rw (p.1, p.2) (unparsed_some c.args.direction c.args.config.now (known (g.W.Write.contents c.args.output.now) (g.T.Write.contents c.args.text.now)) _ c.in_err-config.ensures)

pub returns-in_err-config-clause-unwritten : goal.returns-in_err-config-clause-unwritten
returns-in_err-config-clause-unwritten g c =
    let p = err_from_is_err_and c.from_residual.result c.from_residual.ensures.1 in
    rw (p.1, p.2) (left_both _ _)

pub returns-clause-config : goal.returns-clause-config
returns-clause-config g c = judged c.args.config.now _ c.in_ok-config.ensures _ c.run_configured.ensures.fault

pub returns-clause-run : goal.returns-clause-run
returns-clause-run g c =
    let read = is_parsed c.args.config.now _ c.config.inside.end c.config.inside.commands.items c.as_slice.result.now c.in_ok-config.ensures c.config.view_is
    c.as_slice.ensures.value in
    let output : c.output-1.given.0 ≡ c.run_configured.new.outputs.output.now = search rules in
    let text : c.text-1.given.0 ≡ c.run_configured.new.outputs.text.now = search rules in
    rw (output, text)
    (parsed_known c.args.direction c.args.config.now (g.R.Read.remaining c.args.input.now) c.config.inside.end c.as_slice.result.now _ _ _ read c.run_configured.ensures.run)

pub returns-clause-some : goal.returns-clause-some
returns-clause-some g c =
    let read = is_parsed c.args.config.now _ c.config.inside.end c.config.inside.commands.items c.as_slice.result.now c.in_ok-config.ensures c.config.view_is
    c.as_slice.ensures.value in
    let output : c.output-1.given.0 ≡ c.run_configured.new.outputs.output.now = search rules in
    let text : c.text-1.given.0 ≡ c.run_configured.new.outputs.text.now = search rules in
    rw (output, text)
    (parsed_some c.args.direction c.args.config.now c.config.inside.end c.as_slice.result.now _ _ _ read c.run_configured.ensures.some)

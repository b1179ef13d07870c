use Rattle.std.proofs.lemmas.Result.{err_from_is_err_and}
use Rattle.macsec_capture.{
  proofs.{Configured.{after_config, unmade}, Whole.{configured_gives, configured_some, unprinted, unprinted_some}},
  specs.Outputs.written,
}
use Rattle.macsec_capture.proofs.running.run_configured.Goals as goal

pub returns-in_err-run_commands-clause-run : goal.returns-in_err-run_commands-clause-run
returns-in_err-run_commands-clause-run g c =
    let p = err_from_is_err_and c.from_residual-in_err-run_commands.result c.from_residual-in_err-run_commands.ensures.1 in
    rw (p.1, p.2) (unprinted c.args.direction (record { end = c.args.end; commands = c.args.commands.now }) (g.R.Read.remaining c.args.input.now) (g.W.Write.contents c.args.outputs.now.output.now)
    (g.T.Write.contents c.args.outputs.now.text.now) (g.T.Write.contents c.run_commands.new.text) _ c.in_err-run_commands.ensures.fault)

pub returns-clause-run : goal.returns-clause-run
returns-clause-run g c =
    let commanded = c.in_ok-run_commands.ensures in
    configured_gives c.args.direction (record { end = c.args.end; commands = c.args.commands.now }) _ _ _ _ _ _ _ _ _ c.in_ok-endpoint.ensures.state commanded.state commanded.text
    c.run_file.ensures.fault c.run_file.ensures.run

pub returns-in_err-run_commands-clause-some : goal.returns-in_err-run_commands-clause-some
returns-in_err-run_commands-clause-some g c =
    let p = err_from_is_err_and c.from_residual-in_err-run_commands.result c.from_residual-in_err-run_commands.ensures.1 in
    rw (p.1, p.2) (unprinted_some c.args.direction (record { end = c.args.end; commands = c.args.commands.now }) (g.W.Write.contents c.args.outputs.now.output.now)
    (g.T.Write.contents c.args.outputs.now.text.now) (g.T.Write.contents c.run_commands.new.text) _ c.in_err-run_commands.ensures.fault)

pub returns-clause-some : goal.returns-clause-some
returns-clause-some g c =
    let commanded = c.in_ok-run_commands.ensures in
    configured_some c.args.direction (record { end = c.args.end; commands = c.args.commands.now }) _ _ _ _ _ _ _ _ c.in_ok-endpoint.ensures.state commanded.state commanded.text
    c.run_file.ensures.fault c.run_file.ensures.some

pub returns-in_err-endpoint-clause-some : goal.returns-in_err-endpoint-clause-some
returns-in_err-endpoint-clause-some g c =
    let p = err_from_is_err_and c.from_residual.result c.from_residual.ensures.1 in
    rw (p.1, p.2) (unmade c.args.direction (record { end = c.args.end; commands = c.args.commands.now })
    (written g.W.Write.contents g.T.Write.contents c.args.outputs.now) _ c.in_err-endpoint.ensures.fault)

pub returns-clause-fault : goal.returns-clause-fault
returns-clause-fault g c = after_config _ c.run_file.ensures.fault

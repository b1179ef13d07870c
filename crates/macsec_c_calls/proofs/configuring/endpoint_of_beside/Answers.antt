-- The endpoint is opened with the journal, and the commands are carried out. This proof is here so that a wrong body
-- is refused quickly.
use Rattle.{
  std.proofs.Common.{ap, ◌∙◌, rules},
  macsec_c_calls.{proofs.Commanded.opened_beside, specs.Texts.carried_out},
}
use Rattle.macsec_c_calls.proofs.configuring.endpoint_of_beside.Goals as goal

pub returns : goal.returns
returns c =
    opened_beside (record { end = c.args.end; commands = c.args.commands.now }) c.args.ahead c.args.journal.now _ _
    c.in_ok-endpoint.ensures.0.0 c.in_ok-endpoint.ensures.0.1 c.in_ok-endpoint.ensures.1
    (c.in_ok-carry_out_lines.ensures ∙ ap (λ e. carried_out e c.args.commands.now) (search rules))

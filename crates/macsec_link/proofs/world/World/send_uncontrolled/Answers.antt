-- Only these tactics: without these proofs the prover tries others first, which takes longer, and tries all on a
-- mutant.
use Rattle.macsec_link.proofs.{Names.{◌≡◌, Err, rules}, Faulted.passed_on}
use Rattle.macsec_commands.specs.declared.event.Event.TheVariants as event
use Rattle.macsec_link.proofs.world.World.send_uncontrolled.Goals as goal

pub returns-in_err-check_client_frame-clause-steps : goal.returns-in_err-check_client_frame-clause-steps
returns-in_err-check_client_frame-clause-steps c =
    let passed : c.from_residual.result ≡ Err c.in_err-check_client_frame.field-0.0 = search rules in
    let fault = c.in_err-check_client_frame in
    passed_on c.args.self.now (event.SendUncontrolled c.args.end c.args.frame.now) c.from_residual.result fault.field-0.0 passed (fault.ensures.admits c.args.end)

pub returns-in_default-clause-steps : goal.returns-in_default-clause-steps
returns-in_default-clause-steps c = search rules

pub returns-clause-steps : goal.returns-clause-steps
returns-clause-steps c = search rules

-- Only these tactics: without these proofs the prover tries others first, which takes longer, and tries all on a
-- mutant.
use Rattle.macsec_link.proofs.{Names.{◌≡◌, Err, rules}, Faulted.passed_on}
use Rattle.macsec_commands.specs.declared.event.Event.TheVariants as event
use Rattle.macsec_link.proofs.world.World.pad.Goals as goal

pub returns-in_err-frame-clause-steps : goal.returns-in_err-frame-clause-steps
returns-in_err-frame-clause-steps c =
    let passed : c.from_residual.result ≡ Err c.in_err-frame.field-0.0 = search rules in
    passed_on c.args.self.now (event.Pad c.args.n) c.from_residual.result c.in_err-frame.field-0.0 passed c.in_err-frame.ensures.admits

pub returns-in_default-clause-steps : goal.returns-in_default-clause-steps
returns-in_default-clause-steps c = search rules

pub returns-clause-steps : goal.returns-clause-steps
returns-clause-steps c = search rules

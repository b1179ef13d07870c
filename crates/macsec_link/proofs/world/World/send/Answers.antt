-- Only these tactics: without these proofs the prover tries others first, which takes longer, and tries all on a
-- mutant.
use Rattle.macsec_link.proofs.{
  Names.{◌<◌, ◌≡◌, ap, arith, common_steps, Err, length, length-map, rules, Vec, WorldState, ℕ},
  Faulted.passed_on,
}
use Rattle.macsec_commands.specs.declared.event.Event.TheVariants as event
use Rattle.macsec_link.proofs.world.World.send.Goals as goal

pub returns-in_err-check_client_frame-clause-steps : goal.returns-in_err-check_client_frame-clause-steps
returns-in_err-check_client_frame-clause-steps c =
    let passed : c.from_residual.result ≡ Err c.in_err-check_client_frame.field-0.0 = search rules in
    let fault = c.in_err-check_client_frame in
    passed_on c.args.self.now (event.Send c.args.end c.args.frame.now) c.from_residual.result fault.field-0.0 passed (fault.ensures.admits c.args.end)

pub invariant_of-self-in-Ok-Link : goal.invariant_of-self-in-Ok-Link
invariant_of-self-in-Ok-Link c =
    let frames = c.self.inside.frames.items in
    let as_many = length-map frames (λ (f : Vec ℕ). f.items) in
    let of_world = ap (λ (w : WorldState). length w.frames) c.self.view_is in
    let room : length frames < 65536 = omega (arith, c.in_ok-check_client_frame.ensures.room, of_world, as_many) in
    grind (arith, common_steps)

pub returns-in-Ok-Link-clause-sound : goal.returns-in-Ok-Link-clause-sound
returns-in-Ok-Link-clause-sound c = invariant_of-self-in-Ok-Link c

pub returns-then-is_err-clause-steps : goal.returns-then-is_err-clause-steps
returns-then-is_err-clause-steps c = search rules

pub returns-in-Err-clause-steps : goal.returns-in-Err-clause-steps
returns-in-Err-clause-steps c = search rules

pub returns-in-Ok-Dropped-clause-steps : goal.returns-in-Ok-Dropped-clause-steps
returns-in-Ok-Dropped-clause-steps c = grind (arith, common_steps)

pub returns-in-Ok-Link-clause-steps : goal.returns-in-Ok-Link-clause-steps
returns-in-Ok-Link-clause-steps c = grind (arith, common_steps)

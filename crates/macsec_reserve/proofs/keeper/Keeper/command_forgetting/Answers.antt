-- A key that is retired is forgotten.
use Rattle.macsec_reserve.proofs.ForgettingCalls.{forgets_then}
use Rattle.macsec_reserve.proofs.keeper.Keeper.command_forgetting.Goals as goal

pub returns-in-Ok-clause-after : goal.returns-in-Ok-clause-after
returns-in-Ok-clause-after c =
    forgets_then c.args.self.now c.args.command.now c.in-Retire.number c.command-in-Retire.new.self c.forget.new.self c.in-Retire.is c.in-Ok.ensures.output c.in-Ok.ensures.after c.forget.ensures.after

-- The sum of the counters is a law of the machine.
use Rattle.macsec_secy.proofs.FramesCounted.{command_adds}
use Rattle.macsec_secy.proofs.Secy.command.Goals as goal

pub returns-clause-sum : goal.returns-clause-sum
returns-clause-sum c = command_adds c.args.self.now c.args.command.now

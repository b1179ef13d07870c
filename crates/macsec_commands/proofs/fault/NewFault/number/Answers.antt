use Rattle.std.proofs.Common.{rules}
use Rattle.macsec_commands.proofs.fault.NewFault.number.Goals as goal

pub returns : goal.returns
returns c = search rules

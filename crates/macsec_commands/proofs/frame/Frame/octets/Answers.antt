use Rattle.std.proofs.Common.{rules}
use Rattle.macsec_commands.proofs.frame.Frame.octets.Goals as goal

pub returns : goal.returns
returns c = search rules

use Rattle.std.proofs.Common.{rules}
use Rattle.macsec_script_parser.proofs.faults.ScriptFault.status.Goals as goal

pub returns-in_default : goal.returns-in_default
returns-in_default c = search rules

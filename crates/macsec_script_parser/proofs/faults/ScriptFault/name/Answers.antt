use Rattle.std.proofs.Common.{rules}
use Rattle.macsec_script_parser.proofs.faults.ScriptFault.name.Goals as goal

pub returns-in-Hex : goal.returns-in-Hex
returns-in-Hex c = search rules

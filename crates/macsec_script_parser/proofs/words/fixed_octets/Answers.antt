use Rattle.std.proofs.Common.{rules}
use Rattle.macsec_script_parser.proofs.words.fixed_octets.Goals as goal

pub returns-in-Ok : goal.returns-in-Ok
returns-in-Ok g c = search rules

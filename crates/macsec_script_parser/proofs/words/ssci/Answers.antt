use Rattle.std.proofs.Common.{rules}
use Rattle.macsec_script_parser.proofs.words.ssci.Goals as goal

pub returns : goal.returns
returns c = search rules

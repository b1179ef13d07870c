use Rattle.std.proofs.Common.{rules}
use Rattle.macsec_script_parser.proofs.words.line_body.Goals as goal

pub returns-then-line-eq13 : goal.returns-then-line-eq13
returns-then-line-eq13 c = search rules

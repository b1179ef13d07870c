use Rattle.macsec_c.proofs.Parsed.{parsed_commands}
use Rattle.macsec_c.proofs.laws.parsed_lines_are_commanded.Goals as goal

pub returns : goal.returns
returns c = parsed_commands

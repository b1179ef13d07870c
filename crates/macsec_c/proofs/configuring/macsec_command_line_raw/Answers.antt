use Rattle.{
  std.proofs.Common.Err,
  macsec_script_parser.specs.declared.lines.LineFault.TheVariants.Memory,
  macsec_c.proofs.Names.rules,
}
use Rattle.macsec_c.proofs.configuring.macsec_command_line_raw.Goals as goal

-- without an endpoint nothing is read
pub returns-then-not-is_made : goal.returns-then-not-is_made
returns-then-not-is_made c = (Err Memory, tt, search rules)

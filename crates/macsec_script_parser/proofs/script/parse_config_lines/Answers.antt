-- By lines: what the lines before the index make, with the lines that are left, makes the whole. A faulty line, or one
-- that is out of order, ends the parsing there.
use Rattle.std.proofs.Common.{None}
use Rattle.macsec_script_parser.{
  proofs.LinesLeft.{faulty_line, on_after_line, on_after_skipped, stopped},
  specs.Scripts.add_to_config,
}
use Rattle.macsec_script_parser.proofs.script.parse_config_lines.Goals as goal

pub loop-i-preserved-in-Ok-None : goal.loop-i-preserved-in-Ok-None
loop-i-preserved-in-Ok-None c =
    on_after_skipped add_to_config None c.loop-i.config c.loop-i.i c.args.lines.now _ c.loop-i-test.true c.loop-i.invariant
    (rw c.in-Ok-None.field-0-is at c.in-Ok-None.ensures)

pub loop-i-preserved : goal.loop-i-preserved
loop-i-preserved c =
    on_after_line add_to_config None c.loop-i.config c.in-Ok.next c.loop-i.i c.args.lines.now _ c.in-Ok-Some.line c.loop-i-test.true c.loop-i.invariant
    (rw c.in-Ok-Some.field-0-is at c.in-Ok-Some.ensures) c.in-Ok.ensures

pub returns-in-Err : goal.returns-in-Err
returns-in-Err c =
    rw c.at_line.ensures
    (faulty_line add_to_config None c.loop-i.config _ c.loop-i.i c.args.lines.now _ c.in-Err.fault c.loop-i-test.true c.loop-i.invariant c.in-Err.ensures)

pub returns-in-Err-add_to_config : goal.returns-in-Err-add_to_config
returns-in-Err-add_to_config c =
    stopped add_to_config None c.loop-i.config _ c.loop-i.i c.args.lines.now _ c.in-Ok-Some.line c.in-Err-add_to_config.fault c.loop-i-test.true c.loop-i.invariant
    (rw c.in-Ok-Some.field-0-is at c.in-Ok-Some.ensures) c.in-Err-add_to_config.ensures

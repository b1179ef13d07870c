-- If the text of a line could not be composed, nothing was written; otherwise its text was written, or a prefix of it. The
-- write does not change the world.
use Rattle.{std.proofs.Common.{rules, sym, ◌∙◌}, macsec_script.proofs.Runs.{carried_out, line_written, none_written}}
use Rattle.macsec_script.proofs.running.print_line.Goals as goal

pub returns-then-is_err-clause-text : goal.returns-then-is_err-clause-text
returns-then-is_err-clause-text g c = none_written _ _

pub returns-clause-text : goal.returns-clause-text
returns-clause-text g c =
    line_written _ _ _ _ c.write_octets-written.result c.write_fault.result (search rules) c.write_octets-written.ensures.whole
    c.write_octets-written.ensures.cut c.write_fault.ensures

pub returns-clause-world : goal.returns-clause-world
returns-clause-world g c = carried_out c.show.result c.write_fault.result _ (sym c.is_err.ensures.value ∙ c.if-is_err.false) c.show.ensures.world

pub returns-clause-sound : goal.returns-clause-sound
returns-clause-sound g c = c.show.ensures.sound

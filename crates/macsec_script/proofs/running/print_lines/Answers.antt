-- By induction on the lines: what was written for the lines before the index, and the world after them. A failure
-- leaves what was written before it. The law `worlds_are_sound` carries soundness through each step.
use Rattle.{
  std.{proofs.{Common.{List, arith, subst, take_all}, lemmas.Result.err_from_is_err_and}, specs.Io.KnownBytes.Appends},
  macsec_link.specs.Beginnings.StaysSound,
  macsec_script_parser.specs.Parts.NumberedLine,
  macsec_script.{
    proofs.Runs.{given_up, none_yet, one_more, sound_before},
    specs.{Printed.text_from, Promised.events_of},
  },
}
use Rattle.macsec_script.proofs.running.print_lines.Goals as goal

pub loop-n-init : goal.loop-n-init
loop-n-init g c = none_yet c.args.world.now _ (c.worlds_are_sound.ensures.start c.args.world.now)

pub loop-n-preserved : goal.loop-n-preserved
loop-n-preserved g c =
    one_more c.worlds_are_sound.ensures.step c.args.world.now c.args.lines.now c.loop-n.n-index _ _ _ _ _ _ c.loop-n-item.is (omega arith)
    c.in_ok-print_line.ensures.text c.in_ok-print_line.ensures.world c.in_ok-print_line.ensures.sound c.loop-n.invariant

pub returns-in_err-print_line-clause-text : goal.returns-in_err-print_line-clause-text
returns-in_err-print_line-clause-text g c =
    let p = err_from_is_err_and c.from_residual.result c.from_residual.ensures.1 in
    rw (p.1, p.2) (given_up c.args.world.now c.args.lines.now c.loop-n.n-index _ _ _ _ _ c.loop-n-item.is (omega arith) c.loop-n.invariant _ c.in_err-print_line.ensures.text)

pub returns-in_err-print_line-clause-sound_before : goal.returns-in_err-print_line-clause-sound_before
returns-in_err-print_line-clause-sound_before g c =
    let p = err_from_is_err_and c.from_residual.result c.from_residual.ensures.1 in
    let it = c.in_err-print_line.ensures in
    rw (p.1, p.2)
    (sound_before c.worlds_are_sound.ensures.step c.args.world.now c.args.lines.now c.loop-n.n-index _ _ _ _ _ _ c.loop-n-item.is (omega arith)
    c.loop-n.invariant _ it.text it.unwritten it.world it.sound)

pub returns-clause-text : goal.returns-clause-text
returns-clause-text g c =
    subst (λ (lines : List NumberedLine). Appends (g.W.Write.contents c.args.writer.now) (g.W.Write.contents c.loop-n.writer) (text_from c.args.world.now lines))
    (take_all c.loop-n.n-index c.args.lines.now c.loop-n-test.false) c.loop-n.invariant.written

pub returns-clause-sound : goal.returns-clause-sound
returns-clause-sound g c = λ sound.
    subst (λ (lines : List NumberedLine). StaysSound c.args.world.now (events_of lines)) (take_all c.loop-n.n-index c.args.lines.now c.loop-n-test.false)
    (c.loop-n.invariant.stays sound)

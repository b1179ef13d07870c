use Rattle.std.{proofs.Common.{arith, sym, ◌∙◌, ap}, specs.Option.option_copied}
use Rattle.macsec_script_parser.proofs.{
  LastLine.{last_seen, without_last, with_last, without_lines},
  words.lines.Goals.{in-Some+then-is_empty, in-Some+else-is_empty, in_default},
}
use Rattle.macsec_script_parser.proofs.words.lines.Goals as goal

pub returns : goal.returns
returns c =
    let pieces = c.in_ok-lines.lines.items in
    let text = c.args.text.now in
    let last = last_seen pieces c.deref.result.now c.last.result c.last.ensures.value c.deref.ensures.value in
    elim c.match-last.branch [
      | in-Some+then-is_empty w ↦
          rw (w.lines-is, w.pop.ensures.rest)
          (without_last pieces text w.in-Some.last.now c.in_ok-lines.lines.len (omega (arith, c.in_ok-lines.lines.ok.0))
          c.in_ok-lines.ensures (sym last ∙ ap option_copied w.in-Some.is) (sym w.is_empty.ensures ∙ w.if-is_empty.true))
      | in-Some+else-is_empty w ↦
          rw w.lines-is
          (with_last pieces text w.in-Some.last.now c.in_ok-lines.ensures (sym last ∙ ap option_copied w.in-Some.is) (sym w.is_empty.ensures ∙ w.if-is_empty.false))
      | in_default w ↦ rw w.lines-is (without_lines pieces text c.in_ok-lines.ensures (sym last ∙ ap option_copied w.in_default.is))
    ]

-- The words are read from left to right, as the table says for this kind.
use Rattle.{
  std.proofs.{Common.{arith, sym, ap, ◌∙◌, refl, Err}, lemmas.{Grind.common_steps, Result.err_from_is_err_and}},
  macsec_script_parser.proofs.WordsInOrder.{of_two_words, taken, failed},
}
use Rattle.macsec_script_parser.proofs.lines.options.replay.Goals as goal

pub returns-in_err-protect : goal.returns-in_err-protect
returns-in_err-protect c =
    let p = err_from_is_err_and c.from_residual.result c.from_residual.ensures.1 in
    of_two_words _ c.args.words.now _ c.in-len2.len_at_least c.in-len2.len_below
    (p.1 ∙ ap Err p.2 ∙ failed _ (sym c.switch.ensures ∙ c.in_err-protect.was))

-- by a tactic that names no step, so that a word read out of order breaks the goal and not a name
pub returns-in_err-window : goal.returns-in_err-window
returns-in_err-window c = grind (arith, common_steps)

pub returns : goal.returns
returns c =
    of_two_words _ c.args.words.now _ c.in-len2.len_at_least c.in-len2.len_below
    (taken _ (sym c.switch.ensures ∙ c.in_ok-protect.was)
    (taken _ (sym c.decimal.ensures ∙ c.in_ok-window.was) refl))

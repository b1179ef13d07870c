-- The words are read from left to right, as the table says for this kind.
use Rattle.{
  std.proofs.{Common.{sym, ap, ◌∙◌, refl, Err}, lemmas.Result.err_from_is_err_and},
  macsec_script_parser.proofs.WordsInOrder.{of_three_words, taken, failed},
}
use Rattle.macsec_script_parser.proofs.lines.link.alter.Goals as goal

pub returns-in_err-n : goal.returns-in_err-n
returns-in_err-n c =
    let p = err_from_is_err_and c.from_residual.result c.from_residual.ensures.1 in
    of_three_words _ c.args.words.now _ c.in-len3.len_at_least c.in-len3.len_below
    (p.1 ∙ ap Err p.2 ∙ failed _ (sym c.frame_number.ensures ∙ c.in_err-n.was))

pub returns-in_err-place : goal.returns-in_err-place
returns-in_err-place c =
    let p = err_from_is_err_and c.from_residual-in_err-place.result c.from_residual-in_err-place.ensures.1 in
    of_three_words _ c.args.words.now _ c.in-len3.len_at_least c.in-len3.len_below
    (p.1 ∙ ap Err p.2 ∙ taken _ (sym c.frame_number.ensures ∙ c.in_ok-n.was)
    (failed _ (sym c.frame_number-2.ensures ∙ c.in_err-place.was)))

pub returns-in_err-octet : goal.returns-in_err-octet
returns-in_err-octet c =
    let p = err_from_is_err_and c.from_residual-in_err-octet.result c.from_residual-in_err-octet.ensures.1 in
    of_three_words _ c.args.words.now _ c.in-len3.len_at_least c.in-len3.len_below
    (p.1 ∙ ap Err p.2 ∙ taken _ (sym c.frame_number.ensures ∙ c.in_ok-n.was)
    (taken _ (sym c.frame_number-2.ensures ∙ c.in_ok-place.was)
    (failed _ (sym c.octet.ensures ∙ c.in_err-octet.was))))

pub returns : goal.returns
returns c =
    of_three_words _ c.args.words.now _ c.in-len3.len_at_least c.in-len3.len_below
    (taken _ (sym c.frame_number.ensures ∙ c.in_ok-n.was)
    (taken _ (sym c.frame_number-2.ensures ∙ c.in_ok-place.was)
    (taken _ (sym c.octet.ensures ∙ c.in_ok-octet.was) refl)))

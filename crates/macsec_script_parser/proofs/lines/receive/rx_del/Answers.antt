-- The words are read from left to right, as the table says for this kind.
use Rattle.{
  std.proofs.{Common.{sym, ap, ◌∙◌, refl, Err}, lemmas.Result.err_from_is_err_and},
  macsec_script_parser.proofs.WordsInOrder.{of_two_words, taken, failed},
}
use Rattle.macsec_script_parser.proofs.lines.receive.rx_del.Goals as goal

pub returns-in_err-sci : goal.returns-in_err-sci
returns-in_err-sci c =
    let p = err_from_is_err_and c.from_residual.result c.from_residual.ensures.1 in
    of_two_words _ c.args.words.now _ c.in-len2.len_at_least c.in-len2.len_below
    (p.1 ∙ ap Err p.2 ∙ failed _ (sym c.sci.ensures ∙ c.in_err-sci.was))

pub returns-in_err-an : goal.returns-in_err-an
returns-in_err-an c =
    let p = err_from_is_err_and c.from_residual-in_err-an.result c.from_residual-in_err-an.ensures.1 in
    of_two_words _ c.args.words.now _ c.in-len2.len_at_least c.in-len2.len_below
    (p.1 ∙ ap Err p.2 ∙ taken _ (sym c.sci.ensures ∙ c.in_ok-sci.was)
    (failed _ (sym c.association.ensures ∙ c.in_err-an.was)))

pub returns : goal.returns
returns c =
    of_two_words _ c.args.words.now _ c.in-len2.len_at_least c.in-len2.len_below
    (taken _ (sym c.sci.ensures ∙ c.in_ok-sci.was)
    (taken _ (sym c.association.ensures ∙ c.in_ok-an.was) refl))

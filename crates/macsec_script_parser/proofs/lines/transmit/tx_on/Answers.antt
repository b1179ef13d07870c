-- The word is read as the table says for this kind.
use Rattle.{
  std.proofs.{Common.{sym, ap, ◌∙◌, refl, Err}, lemmas.Result.err_from_is_err_and},
  macsec_script_parser.proofs.WordsInOrder.{of_one_word, taken, failed},
}
use Rattle.macsec_script_parser.proofs.lines.transmit.tx_on.Goals as goal

pub returns-in_err-association : goal.returns-in_err-association
returns-in_err-association c =
    let p = err_from_is_err_and c.from_residual.result c.from_residual.ensures.1 in
    of_one_word _ c.args.words.now _ c.in-len1.len_at_least c.in-len1.len_below
    (p.1 ∙ ap Err p.2 ∙ failed _ (sym c.association.ensures ∙ c.in_err-association.was))

pub returns : goal.returns
returns c =
    of_one_word _ c.args.words.now _ c.in-len1.len_at_least c.in-len1.len_below
    (taken _ (sym c.association.ensures ∙ c.in_ok-association.was) refl)

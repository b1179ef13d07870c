-- The words are read from left to right, as the table says for this kind.
use Rattle.{
  std.proofs.{Common.{sym, ap, ◌∙◌, refl, Err}, lemmas.Result.err_from_is_err_and},
  macsec_script_parser.proofs.WordsInOrder.{of_four_words, taken, failed},
}
use Rattle.macsec_script_parser.proofs.lines.transmit.tx_sa.Goals as goal

pub returns-in_err-an : goal.returns-in_err-an
returns-in_err-an c =
    let p = err_from_is_err_and c.from_residual.result c.from_residual.ensures.1 in
    of_four_words _ c.args.words.now _ c.in-len4.len_at_least c.in-len4.len_below
    (p.1 ∙ ap Err p.2 ∙ failed _ (sym c.association.ensures ∙ c.in_err-an.was))

pub returns-in_err-key : goal.returns-in_err-key
returns-in_err-key c =
    let p = err_from_is_err_and c.from_residual-in_err-key.result c.from_residual-in_err-key.ensures.1 in
    of_four_words _ c.args.words.now _ c.in-len4.len_at_least c.in-len4.len_below
    (p.1 ∙ ap Err p.2 ∙ taken _ (sym c.association.ensures ∙ c.in_ok-an.was)
    (failed _ (sym c.key_number.ensures ∙ c.in_err-key.was)))

pub returns-in_err-next : goal.returns-in_err-next
returns-in_err-next c =
    let p = err_from_is_err_and c.from_residual-in_err-next.result c.from_residual-in_err-next.ensures.1 in
    of_four_words _ c.args.words.now _ c.in-len4.len_at_least c.in-len4.len_below
    (p.1 ∙ ap Err p.2 ∙ taken _ (sym c.association.ensures ∙ c.in_ok-an.was)
    (taken _ (sym c.key_number.ensures ∙ c.in_ok-key.was)
    (failed _ (sym c.packet_number.ensures ∙ c.in_err-next.was))))

pub returns-in_err-conf : goal.returns-in_err-conf
returns-in_err-conf c =
    let p = err_from_is_err_and c.from_residual-in_err-conf.result c.from_residual-in_err-conf.ensures.1 in
    of_four_words _ c.args.words.now _ c.in-len4.len_at_least c.in-len4.len_below
    (p.1 ∙ ap Err p.2 ∙ taken _ (sym c.association.ensures ∙ c.in_ok-an.was)
    (taken _ (sym c.key_number.ensures ∙ c.in_ok-key.was)
    (taken _ (sym c.packet_number.ensures ∙ c.in_ok-next.was)
    (failed _ (sym c.protection.ensures ∙ c.in_err-conf.was)))))

pub returns : goal.returns
returns c =
    of_four_words _ c.args.words.now _ c.in-len4.len_at_least c.in-len4.len_below
    (taken _ (sym c.association.ensures ∙ c.in_ok-an.was)
    (taken _ (sym c.key_number.ensures ∙ c.in_ok-key.was)
    (taken _ (sym c.packet_number.ensures ∙ c.in_ok-next.was)
    (taken _ (sym c.protection.ensures ∙ c.in_ok-conf.was) refl))))

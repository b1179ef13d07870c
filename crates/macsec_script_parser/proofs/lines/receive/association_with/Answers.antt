-- The four words and the SSCI, in this order.
use Rattle.{
  std.proofs.{Common.{sym, ap, ◌∙◌, refl, Err}, lemmas.Result.err_from_is_err_and},
  macsec_script_parser.proofs.WordsInOrder.{taken, failed},
}
use Rattle.macsec_script_parser.proofs.lines.receive.association_with.Goals as goal

pub returns-in_err-sci : goal.returns-in_err-sci
returns-in_err-sci c =
    let p = err_from_is_err_and c.from_residual.result c.from_residual.ensures.1 in
    p.1 ∙ ap Err p.2 ∙ failed _ (sym c.sci.ensures ∙ c.in_err-sci.was)

pub returns-in_err-an : goal.returns-in_err-an
returns-in_err-an c =
    let p = err_from_is_err_and c.from_residual-in_err-an.result c.from_residual-in_err-an.ensures.1 in
    p.1 ∙ ap Err p.2 ∙ taken _ (sym c.sci.ensures ∙ c.in_ok-sci.was)
    (failed _ (sym c.association.ensures ∙ c.in_err-an.was))

pub returns-in_err-key : goal.returns-in_err-key
returns-in_err-key c =
    let p = err_from_is_err_and c.from_residual-in_err-key.result c.from_residual-in_err-key.ensures.1 in
    p.1 ∙ ap Err p.2 ∙ taken _ (sym c.sci.ensures ∙ c.in_ok-sci.was)
    (taken _ (sym c.association.ensures ∙ c.in_ok-an.was)
    (failed _ (sym c.key_number.ensures ∙ c.in_err-key.was)))

pub returns-in_err-lowest : goal.returns-in_err-lowest
returns-in_err-lowest c =
    let p = err_from_is_err_and c.from_residual-in_err-lowest.result c.from_residual-in_err-lowest.ensures.1 in
    p.1 ∙ ap Err p.2 ∙ taken _ (sym c.sci.ensures ∙ c.in_ok-sci.was)
    (taken _ (sym c.association.ensures ∙ c.in_ok-an.was)
    (taken _ (sym c.key_number.ensures ∙ c.in_ok-key.was)
    (failed _ (sym c.packet_number.ensures ∙ c.in_err-lowest.was))))

pub returns-in_err-ssci : goal.returns-in_err-ssci
returns-in_err-ssci c =
    let p = err_from_is_err_and c.from_residual-in_err-ssci.result c.from_residual-in_err-ssci.ensures.1 in
    p.1 ∙ ap Err p.2 ∙ taken _ (sym c.sci.ensures ∙ c.in_ok-sci.was)
    (taken _ (sym c.association.ensures ∙ c.in_ok-an.was)
    (taken _ (sym c.key_number.ensures ∙ c.in_ok-key.was)
    (taken _ (sym c.packet_number.ensures ∙ c.in_ok-lowest.was)
    (failed _ (c.in_err-ssci.was)))))

pub returns : goal.returns
returns c =
    taken _ (sym c.sci.ensures ∙ c.in_ok-sci.was)
    (taken _ (sym c.association.ensures ∙ c.in_ok-an.was)
    (taken _ (sym c.key_number.ensures ∙ c.in_ok-key.was)
    (taken _ (sym c.packet_number.ensures ∙ c.in_ok-lowest.was)
    (taken _ (c.in_ok-ssci.was) refl))))

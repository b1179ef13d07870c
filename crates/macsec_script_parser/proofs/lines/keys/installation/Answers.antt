-- The three words, the suite, and the SSCI with the salt, in this order.
use Rattle.{
  std.proofs.{Common.{sym, ap, ◌∙◌, refl, Err}, lemmas.Result.err_from_is_err_and},
  macsec_script_parser.proofs.WordsInOrder.{taken, failed},
}
use Rattle.macsec_script_parser.proofs.lines.keys.installation.Goals as goal

pub returns-in_err-number : goal.returns-in_err-number
returns-in_err-number c =
    let p = err_from_is_err_and c.from_residual.result c.from_residual.ensures.1 in
    p.1 ∙ ap Err p.2 ∙ failed _ (sym c.key_number.ensures ∙ c.in_err-number.was)

pub returns-in_err-bytes : goal.returns-in_err-bytes
returns-in_err-bytes c =
    let p = err_from_is_err_and c.from_residual-in_err-bytes.result c.from_residual-in_err-bytes.ensures.1 in
    p.1 ∙ ap Err p.2 ∙ taken _ (sym c.key_number.ensures ∙ c.in_ok-number.was)
    (failed _ (sym c.key.ensures ∙ c.in_err-bytes.was))

pub returns-in_err-offset : goal.returns-in_err-offset
returns-in_err-offset c =
    let p = err_from_is_err_and c.from_residual-in_err-offset.result c.from_residual-in_err-offset.ensures.1 in
    p.1 ∙ ap Err p.2 ∙ taken _ (sym c.key_number.ensures ∙ c.in_ok-number.was)
    (taken _ (sym c.key.ensures ∙ c.in_ok-bytes.was)
    (failed _ (sym c.decimal.ensures ∙ c.in_err-offset.was)))

pub returns-in_err-suite : goal.returns-in_err-suite
returns-in_err-suite c =
    let p = err_from_is_err_and c.from_residual-in_err-suite.result c.from_residual-in_err-suite.ensures.1 in
    p.1 ∙ ap Err p.2 ∙ taken _ (sym c.key_number.ensures ∙ c.in_ok-number.was)
    (taken _ (sym c.key.ensures ∙ c.in_ok-bytes.was)
    (taken _ (sym c.decimal.ensures ∙ c.in_ok-offset.was)
    (failed _ (c.in_err-suite.was))))

pub returns-in_err-ssci : goal.returns-in_err-ssci
returns-in_err-ssci c =
    let p = err_from_is_err_and c.from_residual-in_err-ssci.result c.from_residual-in_err-ssci.ensures.1 in
    p.1 ∙ ap Err p.2 ∙ taken _ (sym c.key_number.ensures ∙ c.in_ok-number.was)
    (taken _ (sym c.key.ensures ∙ c.in_ok-bytes.was)
    (taken _ (sym c.decimal.ensures ∙ c.in_ok-offset.was)
    (taken _ (c.in_ok-suite.was)
    (failed _ (c.in_err-ssci.was)))))

pub returns : goal.returns
returns c =
    taken _ (sym c.key_number.ensures ∙ c.in_ok-number.was)
    (taken _ (sym c.key.ensures ∙ c.in_ok-bytes.was)
    (taken _ (sym c.decimal.ensures ∙ c.in_ok-offset.was)
    (taken _ (c.in_ok-suite.was)
    (taken _ (c.in_ok-ssci.was) refl))))

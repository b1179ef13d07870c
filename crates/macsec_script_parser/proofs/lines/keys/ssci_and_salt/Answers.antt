-- The SSCI, and then the salt.
use Rattle.{
  std.proofs.{Common.{ℕ, List, sym, ap, ◌∙◌, Err}, lemmas.Result.err_from_is_err_and},
  macsec_script_parser.{proofs.WordsInOrder.{taken, failed}, specs.Fields.map_ok},
}
use Rattle.macsec_script_parser.proofs.lines.keys.ssci_and_salt.Goals as goal

pub returns-in_err-ssci : goal.returns-in_err-ssci
returns-in_err-ssci c =
    let p = err_from_is_err_and c.from_residual.result c.from_residual.ensures.1 in
    p.1 ∙ ap Err p.2 ∙ failed _ (sym c.ssci.ensures ∙ c.in_err-ssci.was)

pub returns-in_err-salt : goal.returns-in_err-salt
returns-in_err-salt c =
    let p = err_from_is_err_and c.from_residual-in_err-salt.result c.from_residual-in_err-salt.ensures.1 in
    p.1 ∙ ap Err p.2 ∙ taken _ (sym c.ssci.ensures ∙ c.in_ok-ssci.was)
    (ap (map_ok (λ (salt : List ℕ). (c.in_ok-ssci.ssci, salt))) (sym c.in_err-salt.was ∙ c.salt.ensures))

pub returns : goal.returns
returns c =
    taken _ (sym c.ssci.ensures ∙ c.in_ok-ssci.was)
    (ap (map_ok (λ (salt : List ℕ). (c.in_ok-ssci.ssci, salt))) (sym c.in_ok-salt.was ∙ c.salt.ensures))

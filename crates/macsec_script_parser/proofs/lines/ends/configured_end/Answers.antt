-- The words are read from left to right, as the table says for this kind.
use Rattle.{
  std.proofs.{Common.{sym, ap, ◌∙◌, Err}, lemmas.Result.err_from_is_err_and},
  macsec_script_parser.{proofs.WordsInOrder.{of_five_words, taken, failed}, specs.Kinds.end_line},
}
use Rattle.macsec_script_parser.proofs.lines.ends.configured_end.Goals as goal

pub returns-in_err-at : goal.returns-in_err-at
returns-in_err-at c =
    let p = err_from_is_err_and c.from_residual.result c.from_residual.ensures.1 in
    of_five_words _ c.args.words.now _ c.in-len5.len_at_least c.in-len5.len_below
    (p.1 ∙ ap Err p.2 ∙ failed _ (sym c.end.ensures ∙ c.in_err-at.was))

pub returns-in_err-suite : goal.returns-in_err-suite
returns-in_err-suite c =
    let p = err_from_is_err_and c.from_residual-in_err-suite.result c.from_residual-in_err-suite.ensures.1 in
    of_five_words _ c.args.words.now _ c.in-len5.len_at_least c.in-len5.len_below
    (p.1 ∙ ap Err p.2 ∙ taken _ (sym c.end.ensures ∙ c.in_ok-at.was)
    (failed _ (sym c.suite.ensures ∙ c.in_err-suite.was)))

pub returns-in_err-sci : goal.returns-in_err-sci
returns-in_err-sci c =
    let p = err_from_is_err_and c.from_residual-in_err-sci.result c.from_residual-in_err-sci.ensures.1 in
    of_five_words _ c.args.words.now _ c.in-len5.len_at_least c.in-len5.len_below
    (p.1 ∙ ap Err p.2 ∙ taken _ (sym c.end.ensures ∙ c.in_ok-at.was)
    (taken _ (sym c.suite.ensures ∙ c.in_ok-suite.was)
    (failed _ (sym c.sci.ensures ∙ c.in_err-sci.was))))

pub returns-in_err-max_frame : goal.returns-in_err-max_frame
returns-in_err-max_frame c =
    let p = err_from_is_err_and c.from_residual-in_err-max_frame.result c.from_residual-in_err-max_frame.ensures.1 in
    of_five_words _ c.args.words.now _ c.in-len5.len_at_least c.in-len5.len_below
    (p.1 ∙ ap Err p.2 ∙ taken _ (sym c.end.ensures ∙ c.in_ok-at.was)
    (taken _ (sym c.suite.ensures ∙ c.in_ok-suite.was)
    (taken _ (sym c.sci.ensures ∙ c.in_ok-sci.was)
    (failed _ (sym c.decimal.ensures ∙ c.in_err-max_frame.was)))))

pub returns-in_err-form : goal.returns-in_err-form
returns-in_err-form c =
    let p = err_from_is_err_and c.from_residual-in_err-form.result c.from_residual-in_err-form.ensures.1 in
    of_five_words _ c.args.words.now _ c.in-len5.len_at_least c.in-len5.len_below
    (p.1 ∙ ap Err p.2 ∙ taken _ (sym c.end.ensures ∙ c.in_ok-at.was)
    (taken _ (sym c.suite.ensures ∙ c.in_ok-suite.was)
    (taken _ (sym c.sci.ensures ∙ c.in_ok-sci.was)
    (taken _ (sym c.decimal.ensures ∙ c.in_ok-max_frame.was)
    (failed _ (sym c.tag_form.ensures ∙ c.in_err-form.was))))))

pub returns-in-Some : goal.returns-in-Some
returns-in-Some c =
    of_five_words _ c.args.words.now _ c.in-len5.len_at_least c.in-len5.len_below
    (taken _ (sym c.end.ensures ∙ c.in_ok-at.was)
    (taken _ (sym c.suite.ensures ∙ c.in_ok-suite.was)
    (taken _ (sym c.sci.ensures ∙ c.in_ok-sci.was)
    (taken _ (sym c.decimal.ensures ∙ c.in_ok-max_frame.was)
    (taken _ (sym c.tag_form.ensures ∙ c.in_ok-form.was) (ap (end_line c.in_ok-at.at) (sym c.in-Some.is ∙ c.new.ensures)))))))

pub returns-in-None : goal.returns-in-None
returns-in-None c =
    of_five_words _ c.args.words.now _ c.in-len5.len_at_least c.in-len5.len_below
    (taken _ (sym c.end.ensures ∙ c.in_ok-at.was)
    (taken _ (sym c.suite.ensures ∙ c.in_ok-suite.was)
    (taken _ (sym c.sci.ensures ∙ c.in_ok-sci.was)
    (taken _ (sym c.decimal.ensures ∙ c.in_ok-max_frame.was)
    (taken _ (sym c.tag_form.ensures ∙ c.in_ok-form.was) (ap (end_line c.in_ok-at.at) (sym c.in-None.is ∙ c.new.ensures)))))))

-- Parsing and printing: the contract of each call gives the premise of the next.
use Rattle.std.proofs.{Common.{ap, ◌∙◌, Ok}, KnownBytes.Keeps-refl, lemmas.Result.err_from_is_err_and}
use Rattle.macsec_script.proofs.{
  Promised.{nothing_before, text_before, text_promised},
  Unwritten.{after_parsing, at_fault, is_parsed, left_alone, only_written, parsed_after, printed_after},
}
use Rattle.macsec_script.proofs.running.run_text.Goals as goal

pub returns-in_err-parsed-clause-run : goal.returns-in_err-parsed-clause-run
returns-in_err-parsed-clause-run g c =
    let p = err_from_is_err_and c.from_residual.result c.from_residual.ensures.1 in
    rw (p.1, p.2) (at_fault c.args.script.now _ _ (Keeps-refl _) _ c.in_err-parsed.ensures)

pub returns-in_err-parsed-clause-read : goal.returns-in_err-parsed-clause-read
returns-in_err-parsed-clause-read g c =
    let p = err_from_is_err_and c.from_residual.result c.from_residual.ensures.1 in
    rw (p.1, p.2) (parsed_after _ _ c.in_err-parsed.ensures)

pub returns-clause-read : goal.returns-clause-read
returns-clause-read g c = printed_after _ _ _ c.print_script.result c.print_script.ensures.text

pub returns-in_err-parsed-clause-unwritten : goal.returns-in_err-parsed-clause-unwritten
returns-in_err-parsed-clause-unwritten g c =
    let p = err_from_is_err_and c.from_residual.result c.from_residual.ensures.1 in
    rw p.1 (left_alone _ _)

pub returns-in_err-parsed-clause-promised_before : goal.returns-in_err-parsed-clause-promised_before
returns-in_err-parsed-clause-promised_before g c =
    let p = err_from_is_err_and c.from_residual.result c.from_residual.ensures.1 in
    rw (p.1, p.2) (nothing_before c.args.script.now _ _ c.in_err-parsed.ensures)

pub returns-clause-run : goal.returns-clause-run
returns-clause-run g c =
    let parsed = is_parsed c.args.script.now _ c.script.inside.a c.script.inside.b c.script.inside.lines.items c.as_slice.result.now (c.in_ok-parsed.ensures ∙ ap Ok c.in-Some.is) c.script.view_is
    c.as_slice.ensures.value in
    after_parsing c.args.script.now (record { a = c.script.inside.a; b = c.script.inside.b; lines = c.as_slice.result.now }) _ _ parsed _ c.print_script.ensures.text

pub returns-clause-unwritten : goal.returns-clause-unwritten
returns-clause-unwritten g c = only_written _ _ _ c.print_script.result c.print_script.ensures.text

pub returns-clause-promised : goal.returns-clause-promised
returns-clause-promised g c =
    let parsed = is_parsed c.args.script.now _ c.script.inside.a c.script.inside.b c.script.inside.lines.items c.as_slice.result.now (c.in_ok-parsed.ensures ∙ ap Ok c.in-Some.is) c.script.view_is
    c.as_slice.ensures.value in
    text_promised c.args.script.now (record { a = c.script.inside.a; b = c.script.inside.b; lines = c.as_slice.result.now }) parsed c.print_script.result c.print_script.ensures.promised

pub returns-clause-promised_before : goal.returns-clause-promised_before
returns-clause-promised_before g c =
    let parsed = is_parsed c.args.script.now _ c.script.inside.a c.script.inside.b c.script.inside.lines.items c.as_slice.result.now (c.in_ok-parsed.ensures ∙ ap Ok c.in-Some.is) c.script.view_is
    c.as_slice.ensures.value in
    text_before c.args.script.now (record { a = c.script.inside.a; b = c.script.inside.b; lines = c.as_slice.result.now }) parsed _ _ c.print_script.result c.print_script.ensures.promised_before

-- The line has the frame of its word, or the fault of the word.
use Rattle.std.proofs.{Common.{sym, ap, ◌∙◌, refl, codes, Ok, Err}, lemmas.Result.err_from_is_err_and}
use Rattle.macsec_script_parser.{
  proofs.WordsInOrder.{at_one_word, reads_fault, taken},
  specs.{Kinds.{does, kinds_at, read_line}, Readings.Reads},
}
use Rattle.macsec_commands.specs.declared.event.Event.TheVariants as event
use Rattle.macsec_script_parser.proofs.lines.frames.send.Goals as goal

pub returns-in_err-frame : goal.returns-in_err-frame
returns-in_err-frame c =
    let p = err_from_is_err_and c.from_residual.result c.from_residual.ensures.1 in
    at_one_word (λ seen. Reads (read_line (kinds_at c.args.at) (codes "send") seen) c.from_residual.result)
    c.args.words.now _ c.in-len1.len_at_least c.in-len1.len_below
    (reads_fault _ _ c.in_err-frame.field-0.0 (p.1 ∙ ap Err p.2) c.in_err-frame.ensures)

pub returns : goal.returns
returns c =
    at_one_word (λ seen. Reads (read_line (kinds_at c.args.at) (codes "send") seen) (Ok (does (event.Send c.args.at c.in_ok-frame.field-0))))
    c.args.words.now _ c.in-len1.len_at_least c.in-len1.len_below (sym (taken _ c.in_ok-frame.ensures refl))

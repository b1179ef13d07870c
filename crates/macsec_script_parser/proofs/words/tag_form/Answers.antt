-- One case for each word, in the order of the code. The definition makes the same tests; each failed one is rewritten.
use Rattle.std.proofs.Common.{sym, ◌∙◌}
use Rattle.macsec_script_parser.proofs.words.tag_form.Goals as goal

pub returns-then-is_word : goal.returns-then-is_word
returns-then-is_word c = rw (sym c.is_word.ensures ∙ c.if-is_word.true)

pub returns-then-is_word-2 : goal.returns-then-is_word-2
returns-then-is_word-2 c =
    rw (sym c.is_word.ensures ∙ c.if-is_word.false, sym c.is_word-2.ensures ∙ c.if-is_word-2.true)

pub returns-then-is_word-3 : goal.returns-then-is_word-3
returns-then-is_word-3 c =
    rw (sym c.is_word.ensures ∙ c.if-is_word.false, sym c.is_word-2.ensures ∙ c.if-is_word-2.false, sym c.is_word-3.ensures ∙ c.if-is_word-3.true)

pub returns-then-is_word-4 : goal.returns-then-is_word-4
returns-then-is_word-4 c =
    let first = sym c.is_word.ensures ∙ c.if-is_word.false in
    let second = sym c.is_word-2.ensures ∙ c.if-is_word-2.false in
    let third = sym c.is_word-3.ensures ∙ c.if-is_word-3.false in
    let fourth = sym c.is_word-4.ensures ∙ c.if-is_word-4.true in
    rw (first, second, third, fourth)

pub returns : goal.returns
returns c =
    let first = sym c.is_word.ensures ∙ c.if-is_word.false in
    let second = sym c.is_word-2.ensures ∙ c.if-is_word-2.false in
    let third = sym c.is_word-3.ensures ∙ c.if-is_word-3.false in
    let fourth = sym c.is_word-4.ensures ∙ c.if-is_word-4.false in
    rw (first, second, third, fourth)

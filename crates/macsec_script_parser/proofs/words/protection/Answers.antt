-- One case for each word, in the order of the code. The definition makes the same tests; each failed one is rewritten.
use Rattle.std.proofs.Common.{sym, ◌∙◌}
use Rattle.macsec_script_parser.proofs.words.protection.Goals as goal

pub returns-then-is_word : goal.returns-then-is_word
returns-then-is_word c = rw (sym c.is_word.ensures ∙ c.if-is_word.true)

pub returns-then-is_word-2 : goal.returns-then-is_word-2
returns-then-is_word-2 c =
    rw (sym c.is_word.ensures ∙ c.if-is_word.false, sym c.is_word-2.ensures ∙ c.if-is_word-2.true)

pub returns : goal.returns
returns c = rw (sym c.is_word.ensures ∙ c.if-is_word.false, sym c.is_word-2.ensures ∙ c.if-is_word-2.false)

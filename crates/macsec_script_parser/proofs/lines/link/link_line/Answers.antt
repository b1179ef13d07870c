-- For each keyword, the line is the one that its kind in the table makes. Any other keyword is not in this group.
use Rattle.{
  std.proofs.Common.{map, sym, ◌∙◌, codes},
  macsec_script_parser.{proofs.Keywords.{at_word, reads_itself}, specs.{Kinds.{kinds, read_line}, Readings.Reads}},
}
use Rattle.macsec_script_parser.proofs.lines.link.link_line.Goals as goal

pub returns-then-is_word-clause-some : goal.returns-then-is_word-clause-some
returns-then-is_word-clause-some c =
    at_word (λ k. Reads (read_line kinds k (map (λ w. w.now) c.args.words.now)) c.alter.result)
    c.args.keyword.now (codes "alter") _ c.is_word.ensures c.if-is_word.true (reads_itself _ _ c.alter.ensures)

pub returns-then-is_word-2-clause-some : goal.returns-then-is_word-2-clause-some
returns-then-is_word-2-clause-some c =
    at_word (λ k. Reads (read_line kinds k (map (λ w. w.now) c.args.words.now)) c.pad.result)
    c.args.keyword.now (codes "pad") _ c.is_word-2.ensures c.if-is_word-2.true (reads_itself _ _ c.pad.ensures)

pub returns-then-is_word-3-clause-some : goal.returns-then-is_word-3-clause-some
returns-then-is_word-3-clause-some c =
    at_word (λ k. Reads (read_line kinds k (map (λ w. w.now) c.args.words.now)) c.inject.result)
    c.args.keyword.now (codes "inject") _ c.is_word-3.ensures c.if-is_word-3.true c.inject.ensures

pub returns-clause-none : goal.returns-clause-none
returns-clause-none c =
    rw (sym c.is_word.ensures ∙ c.if-is_word.false, sym c.is_word-2.ensures ∙ c.if-is_word-2.false, sym c.is_word-3.ensures ∙ c.if-is_word-3.false)

-- For this keyword, the line is the one that its kind in the table makes. Any other keyword is not in this group.
use Rattle.{
  std.proofs.Common.{◌≡◌, map, sym, ◌∙◌, codes},
  macsec_script_parser.{proofs.Keywords.at_word, specs.Kinds.{kinds, read_line}},
}
use Rattle.macsec_script_parser.proofs.lines.ends.end_line.Goals as goal

pub returns-then-is_word-clause-some : goal.returns-then-is_word-clause-some
returns-then-is_word-clause-some c =
    at_word (λ k. c.configured_end.result ≡ read_line kinds k (map (λ w. w.now) c.args.words.now))
    c.args.keyword.now (codes "end") _ c.is_word.ensures c.if-is_word.true c.configured_end.ensures

pub returns-clause-none : goal.returns-clause-none
returns-clause-none c = rw (sym c.is_word.ensures ∙ c.if-is_word.false)

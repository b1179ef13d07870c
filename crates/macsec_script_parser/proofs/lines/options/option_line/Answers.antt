-- For each keyword, the line is the one that its kind in the table makes. Any other keyword is not in this group.
use Rattle.{
  std.proofs.Common.{◌≡◌, map, sym, ◌∙◌, codes},
  macsec_script_parser.{proofs.Keywords.at_word, specs.Kinds.{kinds_at, read_line}},
}
use Rattle.macsec_script_parser.proofs.lines.options.option_line.Goals as goal

pub returns-then-is_word-clause-some : goal.returns-then-is_word-clause-some
returns-then-is_word-clause-some c =
    at_word (λ k. c.replay.result ≡ read_line (kinds_at c.args.at) k (map (λ w. w.now) c.args.words.now))
    c.args.keyword.now (codes "replay") _ c.is_word.ensures c.if-is_word.true c.replay.ensures

pub returns-then-is_word-2-clause-some : goal.returns-then-is_word-2-clause-some
returns-then-is_word-2-clause-some c =
    at_word (λ k. c.tag.result ≡ read_line (kinds_at c.args.at) k (map (λ w. w.now) c.args.words.now))
    c.args.keyword.now (codes "tag") _ c.is_word-2.ensures c.if-is_word-2.true c.tag.ensures

pub returns-clause-none : goal.returns-clause-none
returns-clause-none c =
    rw (sym c.is_word.ensures ∙ c.if-is_word.false, sym c.is_word-2.ensures ∙ c.if-is_word-2.false)

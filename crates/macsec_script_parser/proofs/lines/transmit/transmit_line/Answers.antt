-- For each keyword, the line is the one that its kind in the table makes. Any other keyword is not in this group.
use Rattle.{
  std.proofs.Common.{◌≡◌, map, sym, ◌∙◌, codes},
  macsec_script_parser.{proofs.Keywords.at_word, specs.Kinds.{kinds_at, read_line}},
}
use Rattle.macsec_script_parser.proofs.lines.transmit.transmit_line.Goals as goal

pub returns-then-is_word-clause-some : goal.returns-then-is_word-clause-some
returns-then-is_word-clause-some c =
    at_word (λ k. c.tx_sa.result ≡ read_line (kinds_at c.args.at) k (map (λ w. w.now) c.args.words.now))
    c.args.keyword.now (codes "txsa") _ c.is_word.ensures c.if-is_word.true c.tx_sa.ensures

pub returns-then-is_word-2-clause-some : goal.returns-then-is_word-2-clause-some
returns-then-is_word-2-clause-some c =
    at_word (λ k. c.tx_on.result ≡ read_line (kinds_at c.args.at) k (map (λ w. w.now) c.args.words.now))
    c.args.keyword.now (codes "txon") _ c.is_word-2.ensures c.if-is_word-2.true c.tx_on.ensures

pub returns-then-is_word-3-clause-some : goal.returns-then-is_word-3-clause-some
returns-then-is_word-3-clause-some c =
    at_word (λ k. c.tx_off.result ≡ read_line (kinds_at c.args.at) k (map (λ w. w.now) c.args.words.now))
    c.args.keyword.now (codes "txoff") _ c.is_word-3.ensures c.if-is_word-3.true c.tx_off.ensures

pub returns-then-is_word-4-clause-some : goal.returns-then-is_word-4-clause-some
returns-then-is_word-4-clause-some c =
    at_word (λ k. c.tx_del.result ≡ read_line (kinds_at c.args.at) k (map (λ w. w.now) c.args.words.now))
    c.args.keyword.now (codes "txdel") _ c.is_word-4.ensures c.if-is_word-4.true c.tx_del.ensures

pub returns-clause-none : goal.returns-clause-none
returns-clause-none c =
    let first = sym c.is_word.ensures ∙ c.if-is_word.false in
    let second = sym c.is_word-2.ensures ∙ c.if-is_word-2.false in
    let third = sym c.is_word-3.ensures ∙ c.if-is_word-3.false in
    let fourth = sym c.is_word-4.ensures ∙ c.if-is_word-4.false in
    rw (first, second, third, fourth)

-- For each keyword, the line is the one that its kind in the table makes. Any other keyword is not in this group.
use Rattle.{
  std.proofs.Common.{◌≡◌, map, sym, ◌∙◌, codes},
  macsec_script_parser.{proofs.Keywords.at_word, specs.Kinds.{kinds_at, read_line}},
}
use Rattle.macsec_script_parser.proofs.lines.receive.receive_line.Goals as goal

pub returns-then-is_word-clause-some : goal.returns-then-is_word-clause-some
returns-then-is_word-clause-some c =
    at_word (λ k. c.rx_sa.result ≡ read_line (kinds_at c.args.at) k (map (λ w. w.now) c.args.words.now))
    c.args.keyword.now (codes "rxsa") _ c.is_word.ensures c.if-is_word.true c.rx_sa.ensures

pub returns-then-is_word-2-clause-some : goal.returns-then-is_word-2-clause-some
returns-then-is_word-2-clause-some c =
    at_word (λ k. c.rx_on.result ≡ read_line (kinds_at c.args.at) k (map (λ w. w.now) c.args.words.now))
    c.args.keyword.now (codes "rxon") _ c.is_word-2.ensures c.if-is_word-2.true c.rx_on.ensures

pub returns-then-is_word-3-clause-some : goal.returns-then-is_word-3-clause-some
returns-then-is_word-3-clause-some c =
    at_word (λ k. c.rx_off.result ≡ read_line (kinds_at c.args.at) k (map (λ w. w.now) c.args.words.now))
    c.args.keyword.now (codes "rxoff") _ c.is_word-3.ensures c.if-is_word-3.true c.rx_off.ensures

pub returns-then-is_word-4-clause-some : goal.returns-then-is_word-4-clause-some
returns-then-is_word-4-clause-some c =
    at_word (λ k. c.rx_low.result ≡ read_line (kinds_at c.args.at) k (map (λ w. w.now) c.args.words.now))
    c.args.keyword.now (codes "rxlow") _ c.is_word-4.ensures c.if-is_word-4.true c.rx_low.ensures

pub returns-then-is_word-5-clause-some : goal.returns-then-is_word-5-clause-some
returns-then-is_word-5-clause-some c =
    at_word (λ k. c.rx_del.result ≡ read_line (kinds_at c.args.at) k (map (λ w. w.now) c.args.words.now))
    c.args.keyword.now (codes "rxdel") _ c.is_word-5.ensures c.if-is_word-5.true c.rx_del.ensures

pub returns-clause-none : goal.returns-clause-none
returns-clause-none c =
    let first = sym c.is_word.ensures ∙ c.if-is_word.false in
    let second = sym c.is_word-2.ensures ∙ c.if-is_word-2.false in
    let third = sym c.is_word-3.ensures ∙ c.if-is_word-3.false in
    let fourth = sym c.is_word-4.ensures ∙ c.if-is_word-4.false in
    let fifth = sym c.is_word-5.ensures ∙ c.if-is_word-5.false in
    rw (first, second, third, fourth, fifth)

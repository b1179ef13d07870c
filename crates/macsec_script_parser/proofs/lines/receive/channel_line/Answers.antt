-- For each keyword, the line is the one that its kind in the table makes. Any other keyword is not in this group.
use Rattle.{
  std.proofs.Common.{◌≡◌, map, sym, ◌∙◌, codes},
  macsec_script_parser.{proofs.Keywords.at_word, specs.Kinds.{kinds_at, read_line}},
}
use Rattle.macsec_script_parser.proofs.lines.receive.channel_line.Goals as goal

pub returns-then-is_word-clause-some : goal.returns-then-is_word-clause-some
returns-then-is_word-clause-some c =
    at_word (λ k. c.rx_sc.result ≡ read_line (kinds_at c.args.at) k (map (λ w. w.now) c.args.words.now))
    c.args.keyword.now (codes "rxsc") _ c.is_word.ensures c.if-is_word.true c.rx_sc.ensures

pub returns-then-is_word-2-clause-some : goal.returns-then-is_word-2-clause-some
returns-then-is_word-2-clause-some c =
    at_word (λ k. c.rx_sc_del.result ≡ read_line (kinds_at c.args.at) k (map (λ w. w.now) c.args.words.now))
    c.args.keyword.now (codes "rxscdel") _ c.is_word-2.ensures c.if-is_word-2.true c.rx_sc_del.ensures

pub returns-clause-none : goal.returns-clause-none
returns-clause-none c =
    rw (sym c.is_word.ensures ∙ c.if-is_word.false, sym c.is_word-2.ensures ∙ c.if-is_word-2.false)

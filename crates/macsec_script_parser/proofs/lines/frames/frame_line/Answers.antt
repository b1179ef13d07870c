-- For each keyword, the line is the one that its kind in the table makes. Any other keyword is not in this group.
use Rattle.{
  std.proofs.Common.{map, sym, ◌∙◌, codes},
  macsec_script_parser.{proofs.Keywords.{at_word, reads_itself}, specs.{Kinds.{kinds_at, read_line}, Readings.Reads}},
}
use Rattle.macsec_script_parser.proofs.lines.frames.frame_line.Goals as goal

pub returns-then-is_word-clause-some : goal.returns-then-is_word-clause-some
returns-then-is_word-clause-some c =
    at_word (λ k. Reads (read_line (kinds_at c.args.at) k (map (λ w. w.now) c.args.words.now)) c.send.result)
    c.args.keyword.now (codes "send") _ c.is_word.ensures c.if-is_word.true c.send.ensures

pub returns-then-is_word-2-clause-some : goal.returns-then-is_word-2-clause-some
returns-then-is_word-2-clause-some c =
    at_word (λ k. Reads (read_line (kinds_at c.args.at) k (map (λ w. w.now) c.args.words.now)) c.send_uncontrolled.result)
    c.args.keyword.now (codes "sendu") _ c.is_word-2.ensures c.if-is_word-2.true c.send_uncontrolled.ensures

pub returns-then-is_word-3-clause-some : goal.returns-then-is_word-3-clause-some
returns-then-is_word-3-clause-some c =
    at_word (λ k. Reads (read_line (kinds_at c.args.at) k (map (λ w. w.now) c.args.words.now)) c.deliver.result)
    c.args.keyword.now (codes "deliver") _ c.is_word-3.ensures c.if-is_word-3.true (reads_itself _ _ c.deliver.ensures)

pub returns-clause-none : goal.returns-clause-none
returns-clause-none c =
    rw (sym c.is_word.ensures ∙ c.if-is_word.false, sym c.is_word-2.ensures ∙ c.if-is_word-2.false, sym c.is_word-3.ensures ∙ c.if-is_word-3.false)

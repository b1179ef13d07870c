-- One case for each count of words. Each kind of receive SA is read from the first four words and the SSCI.
use Rattle.{
  std.proofs.Common.{◌≡◌, codes},
  macsec_script_parser.{proofs.WordsInOrder.{at_four_words, at_five_words}, specs.Kinds.{kinds_at, read_line}},
}
use Rattle.macsec_script_parser.proofs.lines.receive.rx_sa.Goals as goal

pub returns-in-len4 : goal.returns-in-len4
returns-in-len4 c =
    at_four_words (λ seen. c.association_with.result ≡ read_line (kinds_at c.args.at) (codes "rxsa") seen)
    c.args.words.now _ c.in-len4.len_at_least c.in-len4.len_below c.association_with.ensures

pub returns-in-len5 : goal.returns-in-len5
returns-in-len5 c =
    at_five_words (λ seen. c.association_with-in-len5.result ≡ read_line (kinds_at c.args.at) (codes "rxsa") seen)
    c.args.words.now _ c.in-len5.len_at_least c.in-len5.len_below
    (rw c.ssci.ensures at c.association_with-in-len5.ensures)

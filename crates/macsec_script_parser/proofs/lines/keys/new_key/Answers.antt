-- One case for each count of words. Each kind of key is read from the first three words and the words after them.
use Rattle.std.proofs.Common.{◌≡◌, ◌∙◌, codes}
use Rattle.macsec_script_parser.{
  proofs.KeyParts.{key_of-suite, key_of-ssci, key_of-both},
  proofs.WordsInOrder.{at_three_words, at_four_words, at_five_words, at_six_words},
  specs.Kinds.{kinds_at, read_line},
}
use Rattle.macsec_script_parser.proofs.lines.keys.new_key.Goals as goal

pub returns-in-len3 : goal.returns-in-len3
returns-in-len3 c =
    at_three_words (λ seen. c.installation.result ≡ read_line (kinds_at c.args.at) (codes "key") seen)
    c.args.words.now _ c.in-len3.len_at_least c.in-len3.len_below c.installation.ensures

pub returns-in-len4 : goal.returns-in-len4
returns-in-len4 c =
    at_four_words (λ seen. c.installation-in-len4.result ≡ read_line (kinds_at c.args.at) (codes "key") seen)
    c.args.words.now _ c.in-len4.len_at_least c.in-len4.len_below
    (c.installation-in-len4.ensures ∙ key_of-suite c.args.at _ _ _ _ c.some_suite-suite.result _ _ c.some_suite-suite.ensures)

pub returns-in-len5 : goal.returns-in-len5
returns-in-len5 c =
    at_five_words (λ seen. c.installation-in-len5.result ≡ read_line (kinds_at c.args.at) (codes "key") seen)
    c.args.words.now _ c.in-len5.len_at_least c.in-len5.len_below
    (c.installation-in-len5.ensures ∙ key_of-ssci c.args.at _ _ _ _ _ c.ssci_and_salt-more.result c.ssci_and_salt-more.ensures)

pub returns-in-len6 : goal.returns-in-len6
returns-in-len6 c =
    at_six_words (λ seen. c.installation-in-len6.result ≡ read_line (kinds_at c.args.at) (codes "key") seen)
    c.args.words.now _ c.in-len6.len_at_least c.in-len6.len_below
    (c.installation-in-len6.ensures
    ∙ key_of-both c.args.at _ _ _ _ _ _ c.some_suite-suite-in-len6.result c.ssci_and_salt.result c.some_suite-suite-in-len6.ensures c.ssci_and_salt.ensures)

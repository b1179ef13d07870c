use Rattle.std.proofs.{
  Common.{rules, tests, not},
  lemmas.Iterator.{Consumers.{map_from_collect, YieldsList-from_filter}, Splits.YieldsList-from_slice_split},
}
use Rattle.macsec_script_parser.specs.Words.{is_blank, is_empty, without_return}
use Rattle.macsec_script_parser.proofs.words.words.Goals as goal

pub returns : goal.returns
returns c =
    map_from_collect _ c.collect.ensures.ran
    (YieldsList-from_filter _ (λ word. not (is_empty word))
    (YieldsList-from_slice_split _ is_blank (without_return c.args.line.now)
    (cc) (cc) (cc)
    (λ x b q called. search (rules, tests)))
    c.filter.ensures.closure (λ x r q called. search (rules, tests)))

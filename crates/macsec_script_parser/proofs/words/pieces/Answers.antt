use Rattle.std.proofs.{
  Common.{◌==◌, rules, tests},
  lemmas.Iterator.{Consumers.map_from_collect, Splits.YieldsList-from_slice_split},
}
use Rattle.macsec_script_parser.proofs.words.pieces.Goals as goal

pub returns : goal.returns
returns c =
    map_from_collect _ c.collect.ensures.ran
    (YieldsList-from_slice_split _ (λ octet. octet == 10) c.args.text.now
    (cc) (cc) (cc)
    (λ x b q called. search (rules, tests)))

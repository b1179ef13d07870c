-- An SA with a free number of an SC can be added. Proved from the contracts of the look-ups and by search.
use Rattle.{
  std.proofs.Common.{◌≡◌, sym, ◌∙◌, arith, rules, true},
  macsec_rx.{proofs.RxRows.none_from_is_some, specs.Commands.has_channel},
}
use Rattle.macsec_rx.proofs.channels.RxChannels.rx_sa.Goals as goal

pub append-requires-clause-free : goal.append-requires-clause-free
append-requires-clause-free c = sym c.row.ensures ∙ none_from_is_some c.row.result (sym c.is_some.ensures ∙ c.if-is_some.false)

pub append-requires-clause-row : goal.append-requires-clause-row
append-requires-clause-row c =
    let there : has_channel c.args.self.now.scis c.args.sci ≡ true = sym c.if-not-has_channel.ensures.there in
    record {
      channel = there;
      an = omega (arith, c.number-number.ensures.value, c.number-number.ensures.below);
      key = omega arith;
      ssci = omega (arith, c.ranges.ssci.fits);
      next = search rules;
      lowest_least = search (rules, arith);
      lowest = search (rules, arith);
    }

-- For speed: the prover finds this proof, but on a mutant it would try more than this search.
pub returns-clause-refusal : goal.returns-clause-refusal
returns-clause-refusal c = search rules

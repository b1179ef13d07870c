-- Adding an SC with a free SCI keeps the invariant and the index. Proved from the lemmas on adding an SC (`Scis`,
-- `RxRows`, `RowIndex`).
use Rattle.std.proofs.Common.{◌≡◌, ◌∙◌, ◌<◌, ◌≤◌, ap, sym, false, length, arith, rules, tests}
use Rattle.macsec_rx.{
  proofs.{
    Room.rows_fit,
    RowIndex.IsIndex-more_channels,
    RxRows.AreRxRows-more_channels,
    Scis.{joined_scis, still_channel},
  },
  specs.Commands.has_channel,
}
use Rattle.macsec_rx.proofs.channels.RxChannels.rx_sc.Goals as goal

pub invariant_of-self : goal.invariant_of-self
invariant_of-self c =
    let scis = c.self.inside.scis.items in
    let rows = c.self.inside.rows.items in
    let free : has_channel scis c.args.sci ≡ false =
    ap (λ v. has_channel v.scis c.args.sci) c.self.view_is ∙ sym c.if-has_channel.ensures.there in
    let few : length scis < 64 = search (rules, arith) in
    let fit : length rows ≤ 256 = omega (arith, rows_fit scis rows c.self.invariant.0.rows, few) in
    rw c.push.ensures.items (
      record {
        count = search rules;
        scis = joined_scis scis c.args.sci c.self.invariant.0.scis c.has_channel.ensures.sci free;
        rows = AreRxRows-more_channels scis _ (still_channel scis c.args.sci) _ c.self.invariant.0.rows;
      },
      IsIndex-more_channels scis rows c.self.inside.places c.args.sci c.self.invariant.1 c.self.invariant.0.rows few fit,
    )

pub returns-clause-channels : goal.returns-clause-channels
returns-clause-channels c = (invariant_of-self c).0

-- For speed: the prover finds these proofs, but on a mutant it would try more than this search.
pub returns-then-has_channel-clause-refusal : goal.returns-then-has_channel-clause-refusal
returns-then-has_channel-clause-refusal c = search (tests, rules)

pub returns-then-is_full-clause-refusal : goal.returns-then-is_full-clause-refusal
returns-then-is_full-clause-refusal c = search (tests, rules)

pub returns-clause-refusal : goal.returns-clause-refusal
returns-clause-refusal c = search (tests, rules)

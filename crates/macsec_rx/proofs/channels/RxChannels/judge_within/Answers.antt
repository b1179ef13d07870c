-- The key of the SA that is enabled for the frame is in the table, because the key of every SA is (`RxRows`). A verdict
-- with an SA has the one that was found (`Pieces`), and its limits are those at the SA's index (`Limited`).
use Rattle.{
  std.proofs.Common.{◌≡◌, sym, subst, ap, ◌∙◌, IfSome, IsSome},
  macsec_suite.specs.KeyRows.key_row,
  macsec_rx.proofs.{
    Limited.outside_is,
    Pieces.channel_found,
    RxRows.IfSome-in_use,
    channels.RxChannels.judge_within.Goals.After-outside_found,
  },
  macsec_rx.specs.{Judge.{accepted_number, judge_tagged, judge_tagged_row}, Within.outside},
}
use Rattle.macsec_rx.proofs.channels.RxChannels.judge_within.Goals as goal

pub judge_tagged_row-outcome-requires-clause-key_there :
    goal.judge_tagged_row-outcome-requires-clause-key_there
judge_tagged_row-outcome-requires-clause-key_there c =
    subst (λ row. IfSome row (λ r. IsSome (key_row c.args.keys.now r.key))) (sym (c.row_of-row.ensures ∙ c.in_use-found.ensures.row))
    (IfSome-in_use (λ r. IsSome (key_row c.args.keys.now r.key)) _ _ _ c.requires.keys_there)

-- the side of the limits on which the packet number is
side : (c : After-outside_found) →
    c.outside_found.result ≡ outside c.args.limits.now c.args.self.now.rows (judge_tagged c.args.options.now c.args.keys.now c.args.self.now c.args.mpdu.now)
side c =
    let a = c.args in
    let found = c.in_use-found in
    let outcome = c.judge_tagged_row-outcome in
    let same = c.row_of-row.ensures ∙ found.ensures.row in
    let number = outcome.ensures.outcome.accepted ∙ ap (λ r. accepted_number (judge_tagged_row a.options.now a.keys.now a.mpdu.now r)) same in
    let of_row =
    subst (λ r. IfSome outcome.result.accepted (λ n. (judge_tagged a.options.now a.keys.now a.self.now a.mpdu.now).row ≡ r)) (sym found.ensures.row)
    (subst (λ r. IfSome outcome.result.accepted (λ n. (judge_tagged_row a.options.now a.keys.now a.mpdu.now r).row ≡ r)) same outcome.ensures.row) in
    c.outside_found.ensures ∙
    outside_is a.self.now.scis a.limits.now a.self.now.rows (judge_tagged a.options.now a.keys.now a.self.now a.mpdu.now) found.result outcome.result.accepted found.ensures.channels.rows number of_row
    found.ensures.place

pub returns-in-Some-clause-outside : goal.returns-in-Some-clause-outside
returns-in-Some-clause-outside c = sym c.in-Some.is ∙ side (goal.at.returns-in-Some-clause-outside c).After-outside_found

pub returns-clause-outside : goal.returns-clause-outside
returns-clause-outside c = sym c.in_default.is ∙ side (goal.at.returns-clause-outside c).After-outside_found

pub returns-clause-channel : goal.returns-clause-channel
returns-clause-channel c =
    channel_found c.args.self.now.scis c.in_use-found.result c.row_of-row.result c.channel_of.result c.judge_tagged_row-outcome.result.judged.row c.row_of-row.ensures
    c.judge_tagged_row-outcome.ensures.found
    c.channel_of.ensures c.in_use-found.ensures.channel

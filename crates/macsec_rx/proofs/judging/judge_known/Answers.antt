-- With the key that was found and the recovered packet number, the judgement is as defined. Proved from the lemma
-- `judged` of `Recovered`, once for the outcome and once for the SA.
use Rattle.{
  std.proofs.Common.{◌≡◌, rules, subst, IfSome, Some},
  macsec_suite.specs.KeyRows.the_key,
  macsec_rx.{proofs.{Recovered.judged, Reopened.opened_with_found}, specs.Judged.ShowsOutcome},
}
use Rattle.macsec_rx.proofs.judging.judge_known.Goals as goal

pub returns-clause-outcome : goal.returns-clause-outcome
returns-clause-outcome c =
    let there = rw c.unwrap-key.ensures at c.key.ensures.row in
    let number = rw (c.suite.ensures, c.pn.ensures, c.tag.ensures) at c.in-Some.ensures.number in
    subst (λ j. ShowsOutcome c.judge_number.result c.judge_number.new.out j)
    (judged c.args.options.now c.args.keys.now c.args.mpdu.now c.args.row.now c.unwrap-key.result.now _ c.in-Some.number there number)
    (c.judge_number.ensures.outcome (the_key c.args.keys.now c.args.row.now.key).first_unused)

pub returns-clause-row : goal.returns-clause-row
returns-clause-row c =
    let there = rw c.unwrap-key.ensures at c.key.ensures.row in
    let number = rw (c.suite.ensures, c.pn.ensures, c.tag.ensures) at c.in-Some.ensures.number in
    subst (λ j. IfSome c.judge_number.result.accepted (λ n. j.row ≡ Some c.args.row.now))
    (judged c.args.options.now c.args.keys.now c.args.mpdu.now c.args.row.now c.unwrap-key.result.now _ c.in-Some.number there number)
    (c.judge_number.ensures.row (the_key c.args.keys.now c.args.row.now.key).first_unused)

pub judge_number-requires-clause-number : goal.judge_number-requires-clause-number
judge_number-requires-clause-number c = search rules

pub returns-in_default-clause-outcome : goal.returns-in_default-clause-outcome
returns-in_default-clause-outcome c =
    let there = rw c.unwrap-key.ensures at c.key.ensures.row in
    let number = rw (c.suite.ensures, c.pn.ensures, c.tag.ensures) at c.in_default.ensures.number in
    rw (there, ← number) (search rules)

pub judge_number-requires-clause-opened : goal.judge_number-requires-clause-opened
judge_number-requires-clause-opened c =
    let there = rw c.unwrap-key.ensures at c.key.ensures.row in
    let own = rw c.unwrap-key.ensures at c.key.ensures.prepared in
    opened_with_found c.args.opened.now c.args.keys.now c.args.row.now.key c.unwrap-key.result.now _ c.args.mpdu.now c.args.out.now there own c.requires.opened

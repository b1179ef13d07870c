-- There is space for an SA with a free number, and adding it keeps the invariant. Proved from the lemmas on a new SA in
-- `TxRows`; the call of `an.number()` shows that the number is below 4.
use Rattle.{
  std.proofs.Common.{◌≡◌, ◌<◌, sym, ◌∙◌, ap, lit<, arith, rules, None},
  macsec_tx.{proofs.TxRows.{AreTxRows-append, has_room, none_from_is_some}, specs.Transmit.tx_row},
}
use Rattle.macsec_tx.proofs.channel.TxChannel.tx_sa.Goals as goal

pub push-requires : goal.push-requires
push-requires c =
    let free : tx_row c.self.inside.rows.items c.args.an ≡ None =
    ap (λ rows. tx_row rows c.args.an) c.self.view_is ∙ sym c.row.ensures ∙ none_from_is_some c.row.result (sym c.is_some.ensures ∙ c.if-is_some.false) in
    let small : c.args.an < 4 = omega (arith, c.number-number.ensures.value, c.number-number.ensures.below) in
    (lit< tt, has_room c.self.inside.rows.items c.args.an c.self.invariant free small)

pub invariant_of-self : goal.invariant_of-self
invariant_of-self c =
    let free : tx_row c.self.inside.rows.items c.args.an ≡ None =
    ap (λ rows. tx_row rows c.args.an) c.self.view_is ∙ sym c.row.ensures ∙ none_from_is_some c.row.result (sym c.is_some.ensures ∙ c.if-is_some.false) in
    let small : c.args.an < 4 = omega (arith, c.number-number.ensures.value, c.number-number.ensures.below) in
    rw c.push.ensures.items
    (AreTxRows-append c.self.inside.rows.items _ c.self.invariant free
    (record { an = small; key = omega arith; next_least = omega arith; next = search rules }))

pub returns-clause-rows : goal.returns-clause-rows
returns-clause-rows c = invariant_of-self c

pub returns-clause-refusal : goal.returns-clause-refusal
returns-clause-refusal c = search rules

pub returns-then-next-eq0-clause-refusal : goal.returns-then-next-eq0-clause-refusal
returns-then-next-eq0-clause-refusal c = search rules

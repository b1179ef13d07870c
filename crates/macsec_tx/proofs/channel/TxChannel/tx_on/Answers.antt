-- Enabling one SA and disabling the others keeps the invariant of the rows, by the lemma on changes that keep numbers
-- (`ChangedRows`).
use Rattle.{
  std.proofs.Common.{refl, length, ap, ◌∙◌, rules},
  macsec_tx.{proofs.ChangedRows.{AreTxRows-map, AreTxRows-refill, IsTxRow-switch_to}, specs.Commands.switch_to},
}
use Rattle.macsec_tx.proofs.channel.TxChannel.tx_on.Goals as goal

pub invariant_of-self : goal.invariant_of-self
invariant_of-self c =
    let an = c.args.an in
    let changed = AreTxRows-map (switch_to an) (λ row. refl) (IsTxRow-switch_to an) c.self.inside.rows.items c.self.invariant in
    AreTxRows-refill _ _ (c.switch_to.auto.rows ∙ ap length c.as_mut_slice.ensures.value)
    (rw (c.switch_to.ensures, c.as_mut_slice.ensures.value) changed)

pub returns-clause-rows : goal.returns-clause-rows
returns-clause-rows c = invariant_of-self c

pub returns-clause-refusal : goal.returns-clause-refusal
returns-clause-refusal c = search rules

pub returns-then-row-from-clause-refusal : goal.returns-then-row-from-clause-refusal
returns-then-row-from-clause-refusal c = search rules

-- Disabling one SA keeps the invariant of the rows, by the lemma on changes that keep numbers (`ChangedRows`).
use Rattle.{
  std.proofs.Common.{length, ap, ◌∙◌},
  macsec_tx.{proofs.ChangedRows.{AreTxRows-map, AreTxRows-refill, IsTxRow-off_at, an-off_at}, specs.Commands.off_at},
}
use Rattle.macsec_tx.proofs.channel.TxChannel.tx_off.Goals as goal

pub invariant_of-self : goal.invariant_of-self
invariant_of-self c =
    let an = c.args.an in
    let changed = AreTxRows-map (off_at an) (an-off_at an) (IsTxRow-off_at an) c.self.inside.rows.items c.self.invariant in
    AreTxRows-refill _ _ (c.switch_off.auto.rows ∙ ap length c.as_mut_slice.ensures.value)
    (rw (c.switch_off.ensures, c.as_mut_slice.ensures.value) changed)

pub returns-clause-rows : goal.returns-clause-rows
returns-clause-rows c = invariant_of-self c

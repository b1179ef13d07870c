-- The SAs of other numbers are left, and the invariant is kept. Proved from the contract of `retain`, which is a
-- filter, and the lemma on deletion in `ChangedRows`.
use Rattle.{
  std.proofs.Common.{◌≡◌, ◌∙◌, ap, rules},
  arrayvec.proofs.ArrayVecLemmas.filter-from_retain,
  macsec_tx.{proofs.ChangedRows.AreTxRows-filter, specs.Commands.without_tx},
}
use Rattle.macsec_tx.proofs.channel.TxChannel.tx_del.Goals as goal

rows_left : (c : goal.After-retain) → c.retain.new.self.items ≡ without_tx c.self.inside.rows.items c.args.an
rows_left c = filter-from_retain _ _ _ (λ x b f' y called. search rules) _ _ c.retain.ensures.filtered

pub invariant_of-self : goal.invariant_of-self
invariant_of-self c = rw (rows_left c) (AreTxRows-filter _ _ c.self.invariant)

pub returns-clause-done : goal.returns-clause-done
returns-clause-done c = rows_left c ∙ ap (λ rows. without_tx rows c.args.an) c.self.view_is

pub returns-clause-rows : goal.returns-clause-rows
returns-clause-rows c = invariant_of-self c

use Rattle.macsec_reserve.proofs.{
  Prelude.{◌∙◌, ◌≡◌, is_journal, IsCompacted, subst, sym, true},
  ShorterJournals.{are_octets, is_compacted},
}
use Rattle.macsec_reserve.proofs.compaction.compacted.Goals as goal

pub returns-in-Ok-clause-keeps : goal.returns-in-Ok-clause-keeps
returns-in-Ok-clause-keeps c =
    let journal = c.args.journal.now in
    let is : is_journal journal ≡ true = sym c.is_journal.ensures ∙ c.if-not-is_journal.false in
    subst (IsCompacted journal) (sym c.in-Ok.ensures) (is_compacted journal (are_octets journal c.type_inv.journal) is)

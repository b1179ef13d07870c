-- Which fault there is; the rest by search.
use Rattle.{
  std.proofs.Common.{rules, Some, None},
  macsec_reserve.specs.declared.compaction.CompactFault.TheVariants.{NotJournal, Memory},
}
use Rattle.macsec_c_values.proofs.reservations.write_compacted.Goals as goal

pub returns-then-not-is_journal : goal.returns-then-not-is_journal
returns-then-not-is_journal c = (Some NotJournal, search rules)

pub returns-in_default : goal.returns-in_default
returns-in_default c = (Some Memory, search rules)

pub returns : goal.returns
returns c = (None, search rules steps 300000)

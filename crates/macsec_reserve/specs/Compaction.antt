-- A journal made shorter: its header, and one record for each name.
use Rattle.std.specs.Prelude.{◌≡◌, ◌≤◌, ℕ, List, ◌++◌, length, take, drop, true, false}
use Rattle.macsec_reserve.specs.declared.compaction.CompactFault.{CompactFault}
use Rattle.macsec_reserve.specs.declared.compaction.CompactFault.TheVariants.{NotJournal, Memory}
use Rattle.macsec_reserve.specs.Entries.{reduced}
use Rattle.macsec_reserve.specs.Journal.{highest, is_journal, record_length, records_of, reservations, salt_of}

abbrev pub compacted : List ℕ → List ℕ
compacted journal = take record_length journal ++ records_of (reduced (reservations (drop record_length journal)))

-- it is a journal with the same salt, it reserves the same under each name, and it is not longer
pub record IsCompacted (journal shorter : List ℕ) : Type 0 where
  pub is : is_journal shorter ≡ true
  pub salt : salt_of shorter ≡ salt_of journal
  pub same : (name : List ℕ) → highest (reservations shorter) name ≡ highest (reservations journal) name
  pub fits : length shorter ≤ length journal

-- the fault is `NotJournal` exactly for a file that is none
abbrev pub IsFault : List ℕ → CompactFault → Type 0
IsFault journal NotJournal = is_journal journal ≡ false
IsFault journal Memory = is_journal journal ≡ true

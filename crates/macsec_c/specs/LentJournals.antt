-- Borrows of a handle's journal.
use Rattle.std.specs.Prelude.{Some}
use Rattle.std.specs.Borrow.{Lends, MutBor, Fml}
use Rattle.macsec_c_journals.specs.contracts.journals.OpenJournal.{the_row as journal_row}
use Rattle.macsec_journal.specs.Machine.{Journal as JournalState}
use Rattle.macsec_c.specs.declared.journal.Journal.{Journal}
use Rattle.macsec_c.specs.contracts.journal.Journal.{the_row}

abbrev pub with_state : Journal → JournalState → Journal
with_state e k = record e { state = Some k }

-- r borrows the journal of the handle e; once the borrow is over, the handle holds the journal's last value
abbrev pub LendsJournal : MutBor Journal → MutBor JournalState → Fml
LendsJournal e r = Lends the_row journal_row e r (with_state e.now)

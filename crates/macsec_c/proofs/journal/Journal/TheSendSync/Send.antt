-- A handle may go to another thread: what it owns means the same in every thread.
use Rattle.{
  macsec_c_journals.proofs.journals.OpenJournal.TheSendSync.the_send,
  macsec_c.{proofs.{Handle.sends, Handles.journal, Names.IsSend}, specs.contracts.journal.Journal.the_row},
}

pub send : IsSend the_row
send = sends journal the_send

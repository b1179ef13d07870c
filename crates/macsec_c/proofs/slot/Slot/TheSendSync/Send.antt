-- A handle may go to another thread: what it owns means the same in every thread.
use Rattle.{
  macsec_jobs.proofs.slot.Slot.TheSendSync.the_send,
  macsec_c.{proofs.{Handle.sends, Handles.slot, Names.IsSend}, specs.contracts.slot.Slot.the_row},
}

pub send : IsSend the_row
send = sends slot the_send

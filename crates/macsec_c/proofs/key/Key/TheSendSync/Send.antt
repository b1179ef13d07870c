-- A handle may go to another thread: what it owns means the same in every thread.
use Rattle.{
  macsec_jobs.proofs.job_key.JobKey.TheSendSync.the_send,
  macsec_c.{proofs.{Handle.sends, Handles.key, Names.IsSend}, specs.contracts.key.Key.the_row},
}

pub send : IsSend the_row
send = sends key the_send

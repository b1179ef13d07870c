-- What was opened can be used at this endpoint.
use Rattle.macsec_jobs.proofs.Usable.{usable_opens}
use Rattle.macsec_jobs.proofs.slot.Slot.finish_receive.Goals as goal

pub receive_frame-result-requires-clause-opened : goal.receive_frame-result-requires-clause-opened
receive_frame-result-requires-clause-opened c =
    rw (c.usable-opened.ensures.opened, c.keeper.ensures, c.as_slice.ensures.value, c.as_mut_slice.ensures.value) (usable_opens _ _ _ _ _ c.self.invariant.job)

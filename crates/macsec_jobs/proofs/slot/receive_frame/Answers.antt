-- What is delivered fits (`lengths_of_frames`), and what is received is the output of the step.
use Rattle.macsec_jobs.proofs.Delivered.{delivered_fits, finished_as}
use Rattle.macsec_jobs.proofs.slot.receive_frame.Goals as goal

pub delivered_to-delivered-requires : goal.delivered_to-delivered-requires
delivered_to-delivered-requires c =
    let it = c.in-Ok-Received in
    delivered_fits c.lengths_of_frames.ensures c.args.endpoint.now c.args.frame.now it.received _ c.requires.sound
    (rw it.field-0-is at it.ensures.output) c.requires.out

pub returns-in-Ok-Received-clause-output : goal.returns-in-Ok-Received-clause-output
returns-in-Ok-Received-clause-output c =
    let it = c.in-Ok-Received in
    finished_as c.args.endpoint.now c.args.frame.now it.received _
    (rw it.field-0-is at it.ensures.output) c.delivered_to-delivered.ensures.frame

use Rattle.{
  std.proofs.Common.{◌∙◌, ap},
  macsec_secy.specs.Step.{client_frame, link_frame},
  macsec_capture.{proofs.Lengths.fits_record, specs.Captured.frame_of_output},
}
use Rattle.macsec_capture.proofs.records.run_frame.Goals as goal

pub write_frame-requires-clause-fits : goal.write_frame-requires-clause-fits
write_frame-requires-clause-fits g c =
    fits_record _ _ (c.sent_frame.ensures ∙ ap frame_of_output c.send.ensures.output)
    (c.lengths_of_frames.ensures c.args.endpoint.now (client_frame c.args.frame.now) c.requires.sound)

pub write_frame-requires-in-Validate-clause-fits : goal.write_frame-requires-in-Validate-clause-fits
write_frame-requires-in-Validate-clause-fits g c =
    fits_record _ _ (c.delivered_frame.ensures ∙ ap frame_of_output c.receive.ensures.output)
    (c.lengths_of_frames.ensures c.args.endpoint.now (link_frame c.args.frame.now) c.requires.sound)

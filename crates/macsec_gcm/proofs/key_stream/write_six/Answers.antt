use Rattle.{std.proofs.Common.arith, macsec_gcm.proofs.KeyStreams.stream_of_blocks}
use Rattle.macsec_gcm.proofs.key_stream.write_six.Goals as goal

pub returns-clause-stream : goal.returns-clause-stream
returns-clause-stream c = λ k lt.
    rw (c.copy_from_slice.ensures.after, c.as_flattened.ensures.value, c.encrypt6.ensures)
    (stream_of_blocks c.args.schedule.now c.args.first 6 c.blocks_from-blocks.result c.blocks_from-blocks.ensures.count c.blocks_from-blocks.ensures.each k (omega arith))

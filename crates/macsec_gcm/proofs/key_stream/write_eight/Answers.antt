use Rattle.{std.proofs.Common.arith, macsec_gcm.proofs.KeyStreams.stream_of_blocks}
use Rattle.macsec_gcm.proofs.key_stream.write_eight.Goals as goal

pub returns-clause-stream : goal.returns-clause-stream
returns-clause-stream c = λ k lt.
    rw (c.copy_from_slice.ensures.after, c.as_flattened.ensures.value, c.encrypt8.ensures)
    (stream_of_blocks c.args.schedule.now c.args.first 8 c.blocks_by_vectors-blocks.result
    c.blocks_by_vectors-blocks.ensures.count c.blocks_by_vectors-blocks.ensures.each k (omega arith))

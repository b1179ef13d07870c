use Rattle.{std.proofs.Common.{arith, rules}, macsec_gcm.proofs.KeyStreams.stream_of_blocks}
use Rattle.macsec_gcm.proofs.key_stream.write_sixteen.Goals as goal

pub returns-clause-stream : goal.returns-clause-stream
returns-clause-stream c = λ k lt.
    rw (c.copy_from_slice.ensures.after, c.as_flattened.ensures.value, c.encrypt16.ensures)
    (stream_of_blocks c.args.schedule.now c.args.first 16 c.blocks_by_vectors-blocks.result
    c.blocks_by_vectors-blocks.ensures.count c.blocks_by_vectors-blocks.ensures.each k (omega arith))

pub returns-clause-next : goal.returns-clause-next
returns-clause-next c = search rules

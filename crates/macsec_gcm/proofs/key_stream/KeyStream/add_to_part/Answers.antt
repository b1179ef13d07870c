use Rattle.{
  std.proofs.Common.{◌+◌, ◌-◌, ◌∙◌, arith, refl, drop, get_or-drop, get_or-take},
  macsec_gcm.{proofs.{KeyStreams.sum_of_part, States.stream_moves}, specs.Streams.key_stream},
}
use Rattle.macsec_gcm.proofs.key_stream.KeyStream.add_to_part.Goals as goal

pub returns-clause-moves : goal.returns-clause-moves
returns-clause-moves c = λ key icb n at.
    stream_moves c.refill.new.self _ key icb n c.min-count.result (c.refill.ensures.same key icb n at) (omega arith) refl refl refl refl

pub returns-clause-adds : goal.returns-clause-adds
returns-clause-adds c = λ key icb n at.
    let s = c.refill.new.self in
    let moved = c.refill.ensures.same key icb n at in
    rw c.add_octets.ensures
    (sum_of_part (λ k. key_stream key icb (n + k)) c.args.text.now _ c.min-count.result (omega arith)
    (λ k lt.
    get_or-take (256 - s.used) (drop s.used s.octets) k 0 (omega arith)
    ∙ get_or-drop s.used s.octets k 0
    ∙ moved.ready k (omega arith)))

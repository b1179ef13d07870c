use Rattle.{
  std.proofs.Common.{◌≡◌, ◌+◌, ◌∙◌, ℕ, List, ap, arith, get_or, length, refl, replicate, rules},
  macsec_gcm.proofs.{KeyStreams.sum_with_key_stream, States.stream_after_block},
}
use Rattle.macsec_gcm.proofs.key_stream.KeyStream.begin_with_sixteen.Goals as goal

pub returns-clause-stream : goal.returns-clause-stream
returns-clause-stream c =
    let s = c.args.self.now in
    stream_after_block _ s.schedule.now s.counter 0 (record {
      key_is = refl;
      ready = λ k lt. c.write_sixteen-self.ensures.stream (16 + k) (omega arith);
      blocks = 16;
      whole = refl;
      counter = c.write_sixteen-self.ensures.next;
    })

pub returns-clause-block : goal.returns-clause-block
returns-clause-block c =
    let s = c.args.self.now in
    let zeros : List ℕ = replicate 16 0 in
    c.add_octets.ensures
    ∙ sum_with_key_stream s.schedule.now s.counter zeros _ (λ k lt. c.write_sixteen-self.ensures.stream k (omega arith))

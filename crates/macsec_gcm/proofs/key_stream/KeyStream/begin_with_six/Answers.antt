use Rattle.{
  std.proofs.Common.{◌≡◌, ◌+◌, ◌∙◌, ℕ, List, ap, arith, drop, get_or, length, refl, replicate, rules, get_or-drop},
  std.proofs.Common.get_or-take,
  macsec_gcm.proofs.{KeyStreams.sum_with_key_stream, States.{get_or-put_mid, stream_after_block}},
}
use borrow.Rule.Slice.PartMut.{put_mid}
use Rattle.macsec_gcm.proofs.key_stream.KeyStream.begin_with_six.Goals as goal

pub returns-clause-stream : goal.returns-clause-stream
returns-clause-stream c =
    let s = c.args.self.now in
    let new : List ℕ = c.write_six-self.new.octets in
    let octets : List ℕ = put_mid 160 96 s.octets new in
    let long : length new ≡ 96 = search rules in
    let whole : length s.octets ≡ 256 = search rules in
    stream_after_block _ s.schedule.now s.counter 0 (record {
      key_is = refl;
      ready = λ k lt.
          let place : 176 + k ≡ 160 + (16 + k) = omega arith in
          ap (λ (p : ℕ). get_or octets p 0) place
          ∙ get_or-put_mid 160 96 (16 + k) s.octets new (omega arith) (omega arith)
          ∙ c.write_six-self.ensures.stream (16 + k) (omega arith);
      blocks = 6;
      whole = refl;
      counter = c.write_six-self.ensures.next;
    })

pub returns-clause-block : goal.returns-clause-block
returns-clause-block c =
    let s = c.args.self.now in
    let new : List ℕ = c.write_six-self.new.octets in
    let octets : List ℕ = put_mid 160 96 s.octets new in
    let long : length new ≡ 96 = search rules in
    let whole : length s.octets ≡ 256 = search rules in
    let zeros : List ℕ = replicate 16 0 in
    c.add_octets.ensures
    ∙ sum_with_key_stream s.schedule.now s.counter zeros _ (λ k lt.
    get_or-take 96 (drop 160 octets) k 0 (omega arith)
    ∙ get_or-drop 160 octets k 0
    ∙ get_or-put_mid 160 96 k s.octets new (omega arith) (omega arith)
    ∙ c.write_six-self.ensures.stream k (omega arith))

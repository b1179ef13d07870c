use Rattle.{
  std.proofs.Common.{◌≡◌, ◌+◌, ◌∙◌, ℕ, ap, arith, refl, get_or, length, rules},
  macsec_gcm.proofs.States.{get_or-put_mid, stream_refilled},
}
use Rattle.macsec_gcm.proofs.key_stream.KeyStream.refill.Goals as goal

pub returns-then-wanted-gt192-clause-same : goal.returns-then-wanted-gt192-clause-same
returns-then-wanted-gt192-clause-same c = λ key icb n at.
    stream_refilled c.args.self.now _ key icb n 16 at (omega (arith, c.args.self.now.in_range)) (omega arith) refl refl
    (λ k lt. let place : 0 + k ≡ k = omega arith in ap (λ (p : ℕ). get_or c.write_sixteen-self.new.octets p 0) place ∙ c.write_sixteen-self.ensures.stream k lt)
    c.write_sixteen-self.ensures.next

pub returns-then-is_for_eight-clause-same : goal.returns-then-is_for_eight-clause-same
returns-then-is_for_eight-clause-same c = λ key icb n at.
    let long : length c.args.self.now.octets ≡ 256 = search rules in
    let same : length c.write_eight-self.new.octets ≡ 128 = search rules in
    stream_refilled c.args.self.now _ key icb n 8 at (omega (arith, c.args.self.now.in_range)) (omega arith) refl refl
    (λ k lt. get_or-put_mid 128 128 k c.args.self.now.octets c.write_eight-self.new.octets (omega arith) (omega arith) ∙ c.write_eight-self.ensures.stream k lt)
    c.write_eight-self.ensures.next

pub returns-else-is_for_eight-clause-same : goal.returns-else-is_for_eight-clause-same
returns-else-is_for_eight-clause-same c = λ key icb n at.
    let long : length c.args.self.now.octets ≡ 256 = search rules in
    let same : length c.write_six-self.new.octets ≡ 96 = search rules in
    stream_refilled c.args.self.now _ key icb n 6 at (omega (arith, c.args.self.now.in_range)) (omega arith) refl refl
    (λ k lt. get_or-put_mid 160 96 k c.args.self.now.octets c.write_six-self.new.octets (omega arith) (omega arith) ∙ c.write_six-self.ensures.stream k lt)
    c.write_six-self.ensures.next

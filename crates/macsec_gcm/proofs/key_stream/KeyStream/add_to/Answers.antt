use Rattle.{
  std.proofs.Common.{◌≡◌, ◌+◌, ◌-◌, ◌≤◌, ◌∙◌, ℕ, List, ap, arith, drop, length, length-append, length-drop, take},
  std.proofs.Common.{length-take-le, take_all},
  macsec_gcm.{proofs.{KeyStreams.{gctr-append, sum_continues}, States.put_mid-end}, specs.Streams.key_stream},
}
use Rattle.macsec_gcm.proofs.key_stream.KeyStream.add_to.Goals as goal

pub loop-done-preserved : goal.loop-done-preserved
loop-done-preserved c =
    let done : ℕ = c.loop-done.done in
    let piece : List ℕ = c.loop-done.piece in
    let part = c.add_to_part-done in
    let ys : List ℕ = part.new.text in
    let inv = c.loop-done.invariant in
    let whole : take (length piece - done) (drop done piece) ≡ drop done piece = take_all (length piece - done) (drop done piece) (omega (arith, length-drop done piece)) in
    let ys_long : length ys ≡ length piece - done = part.auto.text ∙ ap length whole ∙ length-drop done piece in
    let count : part.result ≤ length piece - done = omega (arith, ap length whole, length-drop done piece) in
    let written = put_mid-end done (length piece - done) piece ys (omega arith) in
    record {
      within = rw written (omega (arith, length-append (take done piece) ys, length-take-le done piece inv.within));
      moved = λ key icb n at.
          let all : n + (done + part.result) ≡ n + done + part.result = omega arith in
          rw all (part.ensures.moves key icb (n + done) (inv.moved key icb n at));
      sum = λ key icb n at.
          rw written
          (sum_continues (λ k. key_stream key icb (n + k)) (λ k. key_stream key icb (n + done + k)) c.args.piece.now piece ys done part.result
          (inv.sum key icb n at) (omega arith) (omega arith) (rw whole at (part.ensures.adds key icb (n + done) (inv.moved key icb n at)))
          (λ k. let later : n + done + k ≡ n + (done + k) = omega arith in ap (key_stream key icb) later));
    }

pub returns-clause-moves : goal.returns-clause-moves
returns-clause-moves c = λ key icb n at.
    let done : c.loop-done.done ≡ length c.args.piece.now = omega arith in
    rw done at (c.loop-done.invariant.moved key icb n at)

pub returns-clause-adds : goal.returns-clause-adds
returns-clause-adds c = λ key icb text at.
    let done : c.loop-done.done ≡ length c.args.piece.now = omega arith in
    gctr-append key icb text c.args.piece.now c.loop-done.piece (omega arith) (rw done at (c.loop-done.invariant.sum key icb (length text) at))

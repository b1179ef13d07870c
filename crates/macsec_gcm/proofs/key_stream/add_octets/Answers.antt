use Rattle.{
  std.proofs.Common.{◌≡◌, ◌-◌, ◌∙◌, ℕ, List, ap, arith, drop, length, length-append, length-drop, slice_index, take},
  std.proofs.Common.length-take-le,
  macsec_gcm.proofs.{KeyStreams.sum_continues, States.put_mid-end, Vectors.{at_rest, rest_is, sum_of_rest}},
}
use Rattle.macsec_gcm.proofs.key_stream.add_octets.Goals as goal

pub loop-text-preserved : goal.loop-text-preserved
loop-text-preserved c =
    let done : ℕ = c.loop-text.done in
    let text : List ℕ = c.loop-text.text in
    let stream : List ℕ = c.args.stream.now in
    let part = c.add_32 in
    let ys : List ℕ = part.new.text in
    let inv = c.loop-text.invariant in
    let whole = rest_is done text in
    let ys_long : length ys ≡ length text - done = part.auto.text ∙ ap length whole ∙ length-drop done text in
    let written = put_mid-end done (length text - done) text ys (omega arith) in
    let long = length-append (take done text) ys in
    let front = length-take-le done text inv.within in
    record {
      within = rw written (omega (arith, long, front, ys_long));
      same = rw written (omega (arith, long, front, ys_long, inv.same));
      sum = rw written
          (sum_continues (slice_index stream) (slice_index (take (length stream - done) (drop done stream))) c.args.text.now text ys done 32
          inv.sum inv.same (omega (arith, inv.same)) (rw whole at part.ensures) (at_rest done stream));
    }

pub returns : goal.returns
returns c =
    let done : ℕ = c.loop-text.done in
    let text : List ℕ = c.loop-text.text in
    let stream : List ℕ = c.args.stream.now in
    let inv = c.loop-text.invariant in
    let ys : List ℕ = c.add_by_16.new.text in
    put_mid-end done (length text - done) text ys (omega (arith, inv.within))
    ∙ sum_of_rest c.args.text.now text stream ys done inv.sum inv.same inv.within c.add_by_16.ensures

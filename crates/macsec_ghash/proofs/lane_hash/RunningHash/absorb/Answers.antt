-- The first blocks that are left add to the hash, and at the end the rest is hashed. Proved from the loop's invariant.
use Rattle.{
  std.proofs.Common.{◌≡◌, ◌-◌, ◌∙◌, ℕ, List, ap, arith, drop, length, length-drop, sym, take, drop-drop, take_all},
  macsec_ghash.{proofs.Blocks.ghash-append, specs.Ghash.{hash_after, pad}},
}
use Rattle.macsec_ghash.proofs.lane_hash.RunningHash.absorb.Goals as goal

pub loop-done-preserved : goal.loop-done-preserved
loop-done-preserved c =
    let done : ℕ = c.loop-done.done in
    let bytes : List ℕ = c.args.bytes.now in
    let part = c.absorb_first-done in
    let inv = c.loop-done.invariant in
    let whole : take (length bytes - done) (drop done bytes) ≡ drop done bytes = take_all (length bytes - done) (drop done bytes) (omega (arith, length-drop done bytes)) in
    let left : length (take (length bytes - done) (drop done bytes)) ≡ length bytes - done = ap length whole ∙ length-drop done bytes in
    record {
      within = omega (arith, left, part.ensures.within);
      rest =
          ap (λ (ys : List ℕ). hash_after c.args.powers.now (hash_after c.args.powers.now part.new.self.sum.0 (take part.new.self.waiting_count part.new.self.waiting)) (pad ys)) (sym (drop-drop part.result done bytes))
          ∙ rw whole at part.ensures.hash
          ∙ inv.rest;
    }

pub returns : goal.returns
returns c = λ blocks held.
    let done : ℕ = c.loop-done.done in
    let bytes : List ℕ = c.args.bytes.now in
    let whole : take (length bytes - done) (drop done bytes) ≡ drop done bytes = take_all (length bytes - done) (drop done bytes) (omega (arith, length-drop done bytes)) in
    let h : ℕ = c.args.powers.now in
    let all = pad bytes in
    record { hash = ghash-append h blocks all ∙ ap (λ (y : ℕ). hash_after h y all) held.hash ∙ sym ((rw whole at c.absorb_rest.ensures) ∙ c.loop-done.invariant.rest) }

-- Each chunk adds its block to the hash, and at the end all blocks are hashed. Proved from the loop's invariant and the
-- lemmas on the blocks of a text in `Blocks`.
use Rattle.{
  std.proofs.Common.{rules, ◌≡◌, ℕ, length, take, ap, ◌∙◌, min},
  macsec_ghash.{proofs.Blocks.{pad_chunk, pad_none}, specs.Ghash.{hash_after, hash_next, pad}},
}
use Rattle.macsec_ghash.proofs.lane_hash.RunningHash.absorb_rest.Goals as goal

-- For speed: on a wrong body the prover would otherwise try more.
pub loop-chunk-init : goal.loop-chunk-init
loop-chunk-init c = search rules

pub loop-chunk-preserved : goal.loop-chunk-preserved
loop-chunk-preserved c =
    let step = c.in-Some.ensures.steps in
    let inv = c.loop-chunk.invariant in
    let size : length c.in-Some.chunk.now ≡ min 16 (length c.loop-chunk.chunk-iterator.rest.now) = rw inv.size at step.1.1 in
    let blocks = pad_chunk c.loop-chunk.chunk-iterator.rest.now c.in-Some.chunk.now c.next.new.self.rest.now step.1.0 size step.1.2 in
    let so_far = c.loop-chunk.self in
    let left = pad c.next.new.self.rest.now in
    let h : ℕ = c.args.powers.now in
    let hash : ℕ = hash_after h so_far.sum.0 (take so_far.waiting_count so_far.waiting) in
    record {
      size = step.0 ∙ inv.size;
      rest = ap (λ (y : ℕ). hash_after h y left) (c.push.ensures ∙ ap (hash_next h hash) c.block_of.ensures) ∙ (rw blocks at inv.rest);
    }

pub returns : goal.returns
returns c =
    let end = c.in-None.ensures.steps in
    let none = pad_none c.loop-chunk.chunk-iterator.rest.now end.1.0 in
    rw none at c.loop-chunk.invariant.rest

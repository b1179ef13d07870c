use Rattle.{
  std.proofs.Common.{ℕ, [], ◌∷◌, ap, sym, ◌∙◌},
  macsec_ghash.{proofs.Blocks.ghash-append, specs.Ghash.hash_next},
}
use Rattle.macsec_ghash.proofs.lane_hash.RunningHash.absorb_block.Goals as goal

pub returns : goal.returns
returns c = λ blocks held.
    let h : ℕ = c.args.powers.now in
    let x : ℕ = c.args.block.0 in
    record { hash = ghash-append h blocks (x ∷ []) ∙ ap (λ (y : ℕ). hash_next h y x) held.hash ∙ sym c.push.ensures }

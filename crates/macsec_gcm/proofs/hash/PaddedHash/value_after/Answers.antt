use Rattle.std.proofs.{
  Common.{◌≡◌, ◌∙◌, ◌∷◌, ◌++◌, [], ℕ, List, ap, arith, length, length-append, take, append-nil},
  lemmas.List.nil_from_length,
}
use Rattle.macsec_ghash.specs.Ghash.{blocks_of, ghash, pad}
use Rattle.macsec_gcm.proofs.hash.PaddedHash.value_after.Goals as goal

pub returns : goal.returns
unfolding pad blocks_of
returns c = λ h blocks at.
    let s = c.args.self.now in
    let rest : List ℕ = take s.waiting_count s.waiting in
    let nothing : at.whole ≡ [] = nil_from_length at.whole (omega (arith, ap length at.text_is, length-append at.whole rest)) in
    let before : blocks ++ pad at.whole ≡ blocks = ap (λ (w : List ℕ). blocks ++ pad w) nothing ∙ append-nil blocks in
    c.value.ensures _ (c.absorb_block.ensures (blocks ++ pad at.whole) at.hashed)
    ∙ ap (λ (k : ℕ). ghash k ((blocks ++ pad at.whole) ++ c.args.last.0 ∷ [])) at.key_is
    ∙ ap (λ (b : List ℕ). ghash h (b ++ c.args.last.0 ∷ [])) before

use Rattle.{
  std.proofs.Common.{◌≡◌, ◌∙◌, ◌*◌, ◌+◌, ◌%◌, ◌^◌, ◌∷◌, [], ℕ, ap₂, ap, arith, length, sym},
  macsec_gcm.{proofs.Words.pad_words, specs.Gcm.length_block},
}
use Rattle.macsec_gcm.proofs.authenticator.length_block.Goals as goal

pub returns : goal.returns
unfolding length_block
returns c = λ a t ea et aad_fits text_fits.
    let aad_bits : c.args.aad * 8 % 2 ^ 64 ≡ 8 * length a = omega (arith, ea) in
    let text_bits : c.args.ciphertext * 8 % 2 ^ 64 ≡ 8 * length t = omega (arith, et) in
    pad_words (8 * length a) (8 * length t) (omega (arith, ea)) (omega (arith, et))
    ∙ ap (λ (n : ℕ). n ∷ []) (sym (ap₂ (λ (u v : ℕ). u * 2 ^ 64 + v) aad_bits text_bits))

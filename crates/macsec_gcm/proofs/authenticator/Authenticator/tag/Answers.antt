use Rattle.{
  std.proofs.Common.{◌≡◌, ◌++◌, ◌∷◌, ◌∙◌, List, ℕ, [], ap, arith, length, append_assoc, sym},
  macsec_ghash.specs.Ghash.{ghash, pad},
  macsec_gcm.proofs.{KeyStreams.sum_with_mask, States.texts_ended},
  macsec_gcm.specs.Gcm.{authentication_tag, hash_subkey, length_block},
}
use Rattle.macsec_gcm.proofs.authenticator.Authenticator.tag.Goals as goal

pub returns : goal.returns
unfolding authentication_tag
returns c = λ key j0 aad text at aad_fits text_fits.
    let h : ℕ = hash_subkey key in
    let s = c.args.self.now in
    let aad_len : length aad ≡ s.aad_len = (let e = at.aad_len in omega arith) in
    let text_len : length text ≡ s.ciphertext_len = (let e = at.ciphertext_len in omega arith) in
    let block : pad (length_block aad text) ≡ c.length_block-lengths.result.0 ∷ [] =
    c.length_block-lengths.ensures aad text aad_len text_len (omega arith) (omega arith) in
    let ended = texts_ended s c.end_text.new.self key j0 aad text at (λ blocks last. c.end_text.ensures h blocks last) in
    let value : c.value_after.result.0 ≡ ghash h (pad aad ++ (pad text ++ pad (length_block aad text))) =
    c.value_after.ensures h (pad aad ++ pad text) ended
    ∙ ap (λ (b : List ℕ). ghash h ((pad aad ++ pad text) ++ b)) (sym block)
    ∙ ap (ghash h) (append_assoc (pad aad) (pad text) (pad (length_block aad text))) in
    rw (c.add_octets.ensures, c.to_be_bytes-tag.ensures, value, at.mask) (sum_with_mask key j0 _ (omega arith))

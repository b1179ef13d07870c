-- The fingerprint of 16 octets.
use Rattle.{
  std.proofs.lemmas.Grind.common_steps,
  macsec_reserve.proofs.Prelude.{◌∙◌, ◌≡◌, ap, arith, K128, key_of_fingerprint, length, rules, sending_name, sym, take},
}
use Rattle.macsec_reserve.proofs.forgetting.fingerprint.Goals as goal

pub returns-in-K128 : goal.returns-in-K128
returns-in-K128 c =
    let salt = c.args.salt.now in
    let long : length c.in-K128.bytes ≡ 16 = first_of (search rules, grind (arith, common_steps)) in
    ap K128 (c.first_16.ensures ∙ ap (take 16) (c.sending_name.ensures ∙ ap (sending_name salt) c.as_slice.ensures)
    ∙ ap (λ m. take m (sending_name salt c.in-K128.bytes)) (sym long))
    ∙ ap (key_of_fingerprint salt) (sym c.in-K128.is)

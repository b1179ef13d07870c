-- The name of the octets is not given up, so the name of their fingerprint decides.
use Rattle.macsec_reserve.{
  proofs.{
    KnownKeys.bytes_of_fingerprint,
    Prelude.{◌||◌, ◌∙◌, ◌≡◌, ap, false, fingerprint, key_bytes, sending_name, sym},
  },
  specs.{Renewing.{has_name, is_given_up}, contracts.keeper.Keeper.the_view},
}
use Rattle.macsec_reserve.proofs.keeper.Keeper.is_given_up.Goals as goal

pub returns-else-has_name : goal.returns-else-has_name
returns-else-has_name c =
    let k = the_view c.self.inside in
    let bytes = key_bytes c.args.bytes in
    let own : has_name k.given_up (sending_name k.salt bytes) ≡ false =
    sym (c.has_name.ensures
    ∙ ap (λ names. has_name names c.name_of_key-name.result) c.as_slice-given_up.ensures.value
    ∙ ap (has_name k.given_up) c.name_of_key-name.ensures)
    ∙ c.if-has_name.false in
    let name = c.name_of_key-of_fingerprint.ensures
    ∙ ap (λ key. sending_name k.salt (key_bytes key)) c.fingerprint.ensures
    ∙ ap (sending_name k.salt) (bytes_of_fingerprint k.salt c.args.bytes) in
    c.has_name-else-has_name.ensures
    ∙ ap (λ names. has_name names c.name_of_key-of_fingerprint.result) c.as_slice-given_up.ensures.value
    ∙ ap (has_name k.given_up) name
    ∙ sym (ap (λ b. b || has_name k.given_up (sending_name k.salt (fingerprint k.salt bytes))) own)
    ∙ ap (λ x. is_given_up x bytes) c.self.view_is

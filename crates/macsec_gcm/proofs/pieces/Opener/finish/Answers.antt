use Rattle.{
  std.proofs.Common.{◌≡◌, ◌∙◌, true, false, refl, rules},
  macsec_gcm.{proofs.Opening.open_of-by_test, specs.Octets.same_octets},
}
use Rattle.macsec_gcm.proofs.pieces.Opener.finish.Goals as goal

pub returns-then-are_same-clause-opened : goal.returns-then-are_same-clause-opened
returns-then-are_same-clause-opened c = λ key iv aad ciphertext at aad_fits ciphertext_fits.
    let tag = c.tag.ensures key _ aad ciphertext at.authenticator aad_fits ciphertext_fits in
    let same : same_octets c.tag.result c.args.tag.now ≡ true = search rules in
    (record { rest = at.stream }, open_of-by_test key iv aad ciphertext c.args.tag.now ∙ rw (← tag, same) refl)

pub returns-clause-refused : goal.returns-clause-refused
returns-clause-refused c = λ key iv aad ciphertext at aad_fits ciphertext_fits.
    let tag = c.tag.ensures key _ aad ciphertext at.authenticator aad_fits ciphertext_fits in
    let different : same_octets c.tag.result c.args.tag.now ≡ false = search rules in
    open_of-by_test key iv aad ciphertext c.args.tag.now ∙ rw (← tag, different) refl

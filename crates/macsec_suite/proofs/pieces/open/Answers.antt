-- All pieces were checked, so the result holds for the whole text. If the tag is valid, all of them are decrypted.
use Rattle.{
  std.proofs.Common.{ap, sym, ◌∙◌, subst, ◌≡◌, ℕ, List, [], Some, None, IfSome, IfNone},
  macsec_gcm.specs.{Gcm.open_of, Pieces.{HasOpened, decrypted}},
}
use Rattle.macsec_suite.proofs.pieces.open.Goals as goal

pub returns-in-Some-clause-gives : goal.returns-in-Some-clause-gives
returns-in-Some-clause-gives c =
    let checked = c.check_text.ensures _ _ _ (c.check_aad.ensures _ _ c.start-opener.ensures) in
    let opens = λ (text : List ℕ). open_of c.args.key.now c.args.iv.now c.args.aad.now c.args.text.now c.args.tag.now ≡ Some text in
    let opened = subst (λ o. IfSome o (λ unlocked. HasOpened unlocked c.args.key.now c.args.iv.now []
    × opens (decrypted c.args.key.now c.args.iv.now c.args.text.now))) c.in-Some.is
    (c.finish.ensures.opened _ _ _ _ checked c.requires.aad_length c.requires.text_length) in
    opened.1 ∙ ap Some (sym (c.decrypt.ensures _ _ opened.0))

pub returns-in-None-clause-gives : goal.returns-in-None-clause-gives
returns-in-None-clause-gives c =
    let checked = c.check_text.ensures _ _ _ (c.check_aad.ensures _ _ c.start-opener.ensures) in
    subst (λ o. IfNone o (open_of c.args.key.now c.args.iv.now c.args.aad.now c.args.text.now c.args.tag.now ≡ None)) c.in-None.is
    (c.finish.ensures.refused _ _ _ _ checked c.requires.aad_length c.requires.text_length)

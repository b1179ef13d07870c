use Rattle.{
  std.proofs.Common.{◌∙◌, [], List, ℕ, Some, ap, rules},
  macsec_gcm.{proofs.Opening.open_undoes_seal, specs.Gcm.gctr},
}
use Rattle.macsec_gcm.proofs.GcmKey.open.Goals as goal

pub returns-in-Some-clause-gives : goal.returns-in-Some-clause-gives
unfolding gctr
returns-in-Some-clause-gives c =
    let key = c.args.self.now in
    let iv = c.args.iv.now in
    let checked = c.check.ensures key iv c.args.aad.now [] (c.aad.ensures key iv [] c.before_text-opener.ensures) in
    let opened = c.in-Some.ensures.opened key iv c.args.aad.now c.args.text.now checked c.requires.aad_length
    c.requires.text_length in
    opened.1 ∙ ap (λ (p : List ℕ). Some p) (c.data.ensures key iv [] opened.0).1

pub returns-in-Some-clause-opened : goal.returns-in-Some-clause-opened
returns-in-Some-clause-opened c =
    (open_undoes_seal c.args.self.now c.args.iv.now c.args.aad.now c.args.text.now c.args.tag.now c.data.new.piece).0
    (returns-in-Some-clause-gives c)

pub returns-in-None-clause-gives : goal.returns-in-None-clause-gives
returns-in-None-clause-gives c =
    let key = c.args.self.now in
    let iv = c.args.iv.now in
    let checked = c.check.ensures key iv c.args.aad.now [] (c.aad.ensures key iv [] c.before_text-opener.ensures) in
    c.in-None.ensures.refused key iv c.args.aad.now c.args.text.now checked c.requires.aad_length c.requires.text_length

pub returns-in-None-clause-refused : goal.returns-in-None-clause-refused
returns-in-None-clause-refused c = λ p sealed.
    let opens = (open_undoes_seal c.args.self.now c.args.iv.now c.args.aad.now c.args.text.now c.args.tag.now p).1
    sealed in
    let refuses = returns-in-None-clause-gives c in
    absurd (cc (opens, refuses))

pub returns-in-None-clause-unchanged : goal.returns-in-None-clause-unchanged
returns-in-None-clause-unchanged c = search rules

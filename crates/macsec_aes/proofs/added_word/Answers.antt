use Rattle.{
  std.proofs.Common.{◌≡◌, ◌-◌, ◌/◌, ◌%◌, ◌<◌, eqb, true, eq-eqb, ◌∙◌, refl},
  macsec_aes.{proofs.{Expansion.quotient_small, Tables.ROUND_CONSTANTS_at}, specs.Aes.{added_word, rot_word}},
}
use Rattle.macsec_aes.proofs.added_word.Goals as goal

pub returns-then-i-key_words-eq0 : goal.returns-then-i-key_words-eq0
unfolding added_word rot_word
returns-then-i-key_words-eq0 c =
    let test : eqb (c.args.i % c.args.key_words) 0 ≡ true = eq-eqb _ _ c.if-i-key_words-eq0.true in
    let place : c.args.i / c.args.key_words - 1 < 10 = quotient_small _ _ c.requires.words c.requires.index.1 in
    rw test (c.sum_of_words.ensures ∙ rw (c.sub_word.ensures, ROUND_CONSTANTS_at (c.args.i / c.args.key_words - 1) place) refl)

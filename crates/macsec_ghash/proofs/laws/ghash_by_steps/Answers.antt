-- GHASH of no blocks, and of one more block. Proved from the definition and the lemma on appended blocks in `Blocks`.
use Rattle.{std.proofs.Common.{refl, ◌∷◌, []}, macsec_ghash.{proofs.Blocks.ghash-append, specs.Ghash.ghash}}
use Rattle.macsec_ghash.proofs.laws.ghash_by_steps.Goals as goal

pub returns-clause-none : goal.returns-clause-none
unfolding ghash
returns-clause-none c = λ h. refl

pub returns-clause-one_more : goal.returns-clause-one_more
returns-clause-one_more c = λ h xs x. ghash-append h xs (x ∷ [])

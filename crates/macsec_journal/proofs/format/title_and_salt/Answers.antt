use Rattle.std.proofs.Common.{◌++◌, ◌∙◌, ◌≡◌, ap, arith, length, refl, replicate}
use Rattle.macsec_journal.{proofs.Arrays.over_end, specs.Format.file_title}
use Rattle.macsec_journal.proofs.format.title_and_salt.Goals as goal

pub returns : goal.returns
returns c =
    let long : length c.copy_from_slice.new.self ≡ 16 = omega (arith, c.copy_from_slice.auto.self) in
    over_end 16 24 c.copy_from_slice.new.self (replicate 24 0) c.copy_from_slice-2.new.self long refl
    ∙ ap (λ xs. xs ++ c.copy_from_slice-2.new.self) c.copy_from_slice.ensures.after
    ∙ ap (λ xs. file_title ++ xs) (c.copy_from_slice-2.ensures.after ∙ c.as_slice.ensures)

use Rattle.std.proofs.Common.{◌++◌, ◌∙◌, ◌≡◌, ap, arith, length, refl, replicate}
use Rattle.macsec_journal.{proofs.Arrays.over_end, specs.Format.file_title}
use Rattle.macsec_journal.proofs.format.file_header.Goals as goal

pub returns : goal.returns
returns c =
    let long : length c.copy_from_slice.new.self ≡ 40 = omega (arith, c.copy_from_slice.auto.self) in
    over_end 40 24 c.copy_from_slice.new.self (replicate 24 0) c.copy_from_slice-2.new.self long refl
    ∙ ap (λ xs. xs ++ c.copy_from_slice-2.new.self) (c.copy_from_slice.ensures.after ∙ c.as_slice.ensures ∙
    c.title_and_salt.ensures)
    ∙ ap (λ xs. file_title ++ c.args.salt.now ++ xs) (c.copy_from_slice-2.ensures.after ∙ c.as_slice-2.ensures ∙
    c.check_of_file-check.ensures)

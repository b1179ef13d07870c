use Rattle.macsec_reserve.proofs.{
  Prelude.{◌++◌, ◌∙◌, ◌≡◌, ap, arith, length, refl, replicate, title},
  WrittenRecords.over_end,
}
use Rattle.macsec_reserve.proofs.journal.title_and_salt.Goals as goal

pub returns : goal.returns
returns c =
    let long : length c.copy_from_slice.new.self ≡ 16 = omega (arith, c.copy_from_slice.auto.self) in
    over_end 16 24 c.copy_from_slice.new.self (replicate 24 0) c.copy_from_slice-2.new.self long refl
    ∙ ap (λ xs. xs ++ c.copy_from_slice-2.new.self) c.copy_from_slice.ensures.after
    ∙ ap (λ xs. title ++ xs) (c.copy_from_slice-2.ensures.after ∙ c.as_slice.ensures)

use Rattle.macsec_reserve.proofs.{Prelude.{◌++◌, ◌∙◌, ◌≡◌, ap, arith, length, refl, replicate}, WrittenRecords.over_end}
use Rattle.macsec_reserve.proofs.reservation.name_and_number.Goals as goal

pub returns : goal.returns
returns c =
    let long : length c.copy_from_slice.new.self ≡ 32 = omega (arith, c.copy_from_slice.auto.self) in
    over_end 32 8 c.copy_from_slice.new.self (replicate 8 0) c.copy_from_slice-2.new.self long refl
    ∙ ap (λ xs. xs ++ c.copy_from_slice-2.new.self) (c.copy_from_slice.ensures.after ∙ c.as_slice.ensures)
    ∙ ap (λ xs. c.args.name.now ++ xs) (c.copy_from_slice-2.ensures.after ∙ c.as_slice-2.ensures)

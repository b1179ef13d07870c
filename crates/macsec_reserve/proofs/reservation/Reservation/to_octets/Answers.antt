use Rattle.macsec_reserve.proofs.{
  Prelude.{◌++◌, ◌∙◌, ◌≡◌, ap, arith, check_of, length, refl, replicate},
  WrittenRecords.over_end,
}
use Rattle.macsec_reserve.proofs.reservation.Reservation.to_octets.Goals as goal

pub returns : goal.returns
returns c =
    let name = c.args.self.now.name in
    let long : length c.copy_from_slice.new.self ≡ 40 = omega (arith, c.copy_from_slice.auto.self) in
    over_end 40 24 c.copy_from_slice.new.self (replicate 24 0) c.copy_from_slice-2.new.self long refl
    ∙ ap (λ xs. xs ++ c.copy_from_slice-2.new.self) (c.copy_from_slice.ensures.after ∙ c.as_slice.ensures ∙ c.name_and_number.ensures)
    ∙ ap (λ xs. name ++ c.to_be_bytes-number.result ++ xs) (c.copy_from_slice-2.ensures.after ∙ c.as_slice-2.ensures ∙ c.check_of-check.ensures)
    ∙ ap (λ number. name ++ number ++ check_of name number) c.to_be_bytes-number.ensures

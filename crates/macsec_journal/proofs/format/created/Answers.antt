use Rattle.std.proofs.Common.{[], ◌++◌, ◌∙◌, ◌≡◌, ap, append-nil, arith, length, refl, replicate, sym}
use Rattle.macsec_reserve.specs.Journal.{record_of}
use Rattle.macsec_journal.{proofs.Arrays.over_end, specs.Format.{count_of, file_header}}
use Rattle.macsec_journal.proofs.format.created.Goals as goal

pub returns : goal.returns
returns c =
    let salt = c.args.salt.now in
    let long : length c.copy_from_slice.new.self ≡ 64 = omega (arith, c.copy_from_slice.auto.self) in
    over_end 64 64 c.copy_from_slice.new.self (replicate 64 0) c.copy_from_slice-2.new.self long refl
    ∙ ap (λ xs. xs ++ c.copy_from_slice-2.new.self) (c.copy_from_slice.ensures.after ∙ c.as_slice.ensures ∙
    c.file_header-header.ensures)
    ∙ ap (λ xs. file_header salt ++ xs) (c.copy_from_slice-2.ensures.after ∙ c.as_slice-2.ensures ∙
    c.to_octets-slot.ensures ∙ ap record_of c.count_with-count.ensures)
    ∙ sym (append-nil (file_header salt ++ record_of (count_of salt [])))

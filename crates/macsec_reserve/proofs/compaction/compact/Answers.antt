use Rattle.macsec_reserve.proofs.Prelude.{◌++◌, ◌-◌, ◌∙◌, ap, arith, drop, length, length-drop, records_of, reduced}
use Rattle.macsec_reserve.proofs.Prelude.{reservations, take, take_all}
use Rattle.macsec_reserve.proofs.compaction.compact.Goals as goal

pub returns : goal.returns
returns c =
    let journal = c.args.journal.now in
    let head = take 64 journal in
    let whole = take_all (length journal - 64) (drop 64 journal) (omega (arith, length-drop 64 journal)) in
    c.in_ok-append_records.ensures
    ∙ ap (λ xs. xs ++ records_of c.as_slice.result.now) (c.in_ok-extend_from_slice.ensures.items ∙ ap (λ xs. xs ++ head) c.new-shorter.ensures.items)
    ∙ ap (λ rs. head ++ records_of rs) (c.as_slice.ensures.value ∙ c.in_ok-entries.ensures)
    ∙ ap (λ xs. head ++ records_of (reduced (reservations xs))) whole

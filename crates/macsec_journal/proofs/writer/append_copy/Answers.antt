use Rattle.std.proofs.Common.{◌++◌, ◌-◌, ◌*◌, ap, append_assoc, length, List, ℕ, replicate, ◌∙◌}
use Rattle.macsec_reserve.specs.Journal.{records_of}
use Rattle.macsec_journal.specs.Format.{copy_length}
use Rattle.macsec_journal.proofs.writer.append_copy.Goals as goal

abbrev zeros : ℕ → ℕ → List ℕ
zeros size count = replicate (size - 64 * count) 0

pub returns-clause-octets : goal.returns-clause-octets
returns-clause-octets c =
    let records = c.args.records.now in
    let count = length records in
    c.append_zeros.ensures.octets
    ∙ ap (λ (xs : List ℕ). xs ++ zeros c.copy_length.result count) c.append_records.ensures.octets
    ∙ ap (λ (size : ℕ). c.args.out.now.items ++ records_of records ++ zeros size count) c.copy_length.ensures
    ∙ append_assoc c.args.out.now.items (records_of records) (zeros (copy_length count) count)

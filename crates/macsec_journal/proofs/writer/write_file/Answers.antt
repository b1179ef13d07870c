use Rattle.{
  std.proofs.Common.{◌++◌, ap, length, ◌∙◌},
  macsec_reserve.specs.Journal.{record_of, records_of},
  macsec_journal.specs.Format.{count_with, file_header},
}
use Rattle.macsec_journal.proofs.writer.write_file.Goals as goal

pub returns-clause-octets : goal.returns-clause-octets
returns-clause-octets c =
    let salt = c.args.salt.now in
    let table = c.args.table.now in
    let written = c.as_slice.ensures.value ∙ c.append_records.ensures.octets ∙ ap (λ xs. xs ++ records_of table)
    c.clear.ensures.items in
    c.append_records-2.ensures.octets
    ∙ ap (λ xs. xs ++ records_of table) (
    c.append_record.ensures.octets
    ∙ ap (λ xs. xs ++ record_of c.count_with-count.result)
    (c.append_octets.ensures.octets ∙ ap (λ xs. xs ++ c.as_slice-2.result.now) c.clear-2.ensures.items ∙
    c.as_slice-2.ensures ∙ c.file_header.ensures)
    )
    ∙ ap (λ r. file_header salt ++ record_of r ++ records_of table) (c.count_with-count.ensures ∙ ap
    (λ octets. count_with salt octets (length table)) written)

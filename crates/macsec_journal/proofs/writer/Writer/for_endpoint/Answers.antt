use Rattle.{
  std.proofs.Common.{◌++◌, ap, ◌∙◌},
  macsec_reserve.specs.Journal.{header, records_of},
  macsec_journal.specs.Machine.{Journal, for_endpoint},
}
use Rattle.macsec_journal.proofs.writer.Writer.for_endpoint.Goals as goal

pub returns-clause-octets : goal.returns-clause-octets
returns-clause-octets c =
    c.append_records.ensures.octets
    ∙ ap (λ xs. xs ++ records_of c.as_slice-2.result.now) (c.append_octets.ensures.octets ∙ ap
    (λ xs. xs ++ c.as_slice.result.now) c.clear.ensures.items ∙ c.as_slice.ensures ∙ c.header.ensures)
    ∙ ap (λ rs. header c.self.inside.salt ++ records_of rs) c.as_slice-2.ensures.value
    ∙ ap (λ (j : Journal). for_endpoint j) c.self.view_is

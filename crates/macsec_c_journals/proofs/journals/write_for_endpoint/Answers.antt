-- The buffer has what the writer has written.
use Rattle.{
  std.proofs.Common.{ap, ◌∙◌},
  macsec_journal.specs.Machine.{Journal, for_endpoint},
  macsec_c_journals.specs.Calls.filled,
}
use Rattle.macsec_c_journals.proofs.journals.write_for_endpoint.Goals as goal

pub returns-clause-written : goal.returns-clause-written
returns-clause-written c =
    c.write_octets.ensures
    ∙ ap (λ xs. filled xs (c.args.out.now, c.args.written.now))
    (c.as_slice.ensures.value ∙ c.for_endpoint.ensures.octets ∙ ap (λ (j : Journal). for_endpoint j) c.journal.view_is)

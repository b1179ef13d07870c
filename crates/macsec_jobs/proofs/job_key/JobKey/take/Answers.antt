-- The row that is found has the number.
use Rattle.{
  std.proofs.Common.{ap, ◌∙◌},
  macsec_suite.specs.declared.key_row.KeyRow.KeyRow,
  macsec_jobs.proofs.SameKeys.found_number,
}
use Rattle.macsec_jobs.proofs.job_key.JobKey.take.Goals as goal

pub returns-clause-number : goal.returns-clause-number
returns-clause-number c = ap (λ (r : KeyRow). r.key.number) c.prepared_again.ensures ∙ found_number _ _ _ c.in-Some.ensures.row

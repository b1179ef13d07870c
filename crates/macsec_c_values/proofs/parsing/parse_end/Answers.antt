-- What was read is named; its configuration means it.
use Rattle.{
  std.proofs.Common.{Err, Ok, ap, ap₂, rules, ◌∙◌},
  macsec_c_values.{proofs.RowsMean.config_means, specs.{Configs.config_of, Statuses.done_status}},
}
use Rattle.macsec_c_values.proofs.parsing.parse_end.Goals as goal

pub returns-in-Ok : goal.returns-in-Ok
returns-in-Ok c = (
  Ok c.in-Ok.end,
  record {
    reads = search rules;
    shows = ap (λ config. (done_status, config)) c.config_row.ensures;
    means = ap config_of c.config_row.ensures ∙ config_means c.in-Ok.end;
  },
)

pub returns-in-Err : goal.returns-in-Err
returns-in-Err c = (
  Err c.in-Err.fault,
  record {
    reads = search rules;
    shows = ap₂ (λ status config. (status, config)) c.status_of_line_fault.ensures c.no_config.ensures;
    means = ap config_of c.no_config.ensures;
  },
)

-- The direction of a capture is the subcommand's; the rest is by search. The prover tries nothing else on a mutant.
use Rattle.{
  std.{proofs.Common.{◌≡◌, rules}, specs.Option.option_map},
  clap.specs.Words.{found_of, rows_of},
  macsec_capture.specs.declared.Direction.TheVariants.Protect,
  macsec_cli_runs.specs.Words.{asked_by, capture_in},
}
use Rattle.macsec_cli_runs.proofs.arguments.task_of.Goals as goal

pub returns-in-protect : goal.returns-in-protect
returns-in-protect c =
    let rows = rows_of (found_of c.in_ok-name.words.now) in
    let told : option_map asked_by c.capture_of.result ≡ capture_in Protect rows = c.capture_of.ensures in
    search rules

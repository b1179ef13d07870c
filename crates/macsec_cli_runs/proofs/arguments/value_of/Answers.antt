use Rattle.{std.proofs.Common.{◌∙◌}, clap.{proofs.WalkLemmas.first_value-rows, specs.Words.found_of}}
use Rattle.macsec_cli_runs.proofs.arguments.value_of.Goals as goal

pub returns : goal.returns
returns c = c.get_str.ensures ∙ first_value-rows (found_of c.args.matches.now) c.args.id.now

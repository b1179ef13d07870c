-- The matches are what the arguments ask for. An error of clap is a fault of the arguments, or out of memory.
use Rattle.{
  std.proofs.Common.{ap, map, refl, string_bytes, ◌∙◌},
  clap.specs.Words.is_simple_and_free,
  macsec_cli_runs.proofs.Matched.{is_free, refused_words, taken_words},
}
use Rattle.macsec_cli_runs.proofs.arguments.task_of_words.Goals as goal

pub returns : goal.returns
returns c =
    let is = c.in-Ok.ensures in
    let why = c.in-Err.ensures.kinds (ap is_simple_and_free is ∙ is_free) in
    rw (c.failure_of_kind.ensures, c.kind.ensures) (refused_words _ (map string_bytes c.args.words.now) c.in-Err.error is why)

pub returns-in-Some : goal.returns-in-Some
returns-in-Some c =
    let matched = c.in-Ok-try_get_matches_from in
    taken_words _ (map string_bytes c.args.words.now) matched.matches _ c.in-Ok.ensures matched.ensures.kinds
    matched.ensures.matches c.in-Some.ensures

pub returns-in-Ok-try_get_matches_from : goal.returns-in-Ok-try_get_matches_from
returns-in-Ok-try_get_matches_from c =
    let matched = c.in-Ok-try_get_matches_from in
    taken_words _ (map string_bytes c.args.words.now) matched.matches _ c.in-Ok.ensures matched.ensures.kinds
    matched.ensures.matches c.in-None.ensures

pub returns-in_default : goal.returns-in_default
returns-in_default c = refl

-- The reported result is the result for the arguments.
use Rattle.macsec_cli_runs.proofs.program.run_and_tell.Goals as goal

pub returns : goal.returns
returns g c = record {
  ended = c.end_of_words-ended.result;
  ends = c.end_of_words-ended.ensures;
  status_of_end = c.tell.ensures.status;
  line = c.tell.ensures.line;
}

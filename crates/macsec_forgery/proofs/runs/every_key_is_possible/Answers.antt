use Rattle.macsec_forgery.proofs.InRuns.{every_key_is_possible_in_runs}
use Rattle.macsec_forgery.proofs.runs.every_key_is_possible.Goals as goal

pub returns : goal.returns
returns c = every_key_is_possible_in_runs c.promises.ensures

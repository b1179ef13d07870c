use Rattle.macsec_c_runs.proofs.Saved.{never_delivers_again, never_delivers_again_under}
use Rattle.macsec_c_runs.proofs.laws.never_delivers_again_over_calls.Goals as goal

pub returns-clause-named : goal.returns-clause-named
returns-clause-named c = never_delivers_again c.never_delivers_again_renewing.ensures.named

pub returns-clause-keyed : goal.returns-clause-keyed
returns-clause-keyed c = never_delivers_again_under c.never_delivers_again_renewing.ensures.keyed

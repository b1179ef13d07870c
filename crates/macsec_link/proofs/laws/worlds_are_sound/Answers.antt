-- The world stays sound over no events, and over one more event if its step leaves it sound.
use Rattle.macsec_link.proofs.Moments.{at_start, one_more_step}
use Rattle.macsec_link.proofs.laws.worlds_are_sound.Goals as goal

pub returns-clause-start : goal.returns-clause-start
returns-clause-start c = at_start

pub returns-clause-step : goal.returns-clause-step
returns-clause-step c = one_more_step

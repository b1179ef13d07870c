use Rattle.macsec_restarts.proofs.RenewingEnds.{begins_above_its_end, keeps_ends_renewing, refuses_below_end_renewing}
use Rattle.macsec_restarts.proofs.RenewingEnds.{remembers_end_renewing}
use Rattle.macsec_restarts.proofs.laws.begins_above_its_end_renewing.Goals as goal

pub returns-clause-remembers : goal.returns-clause-remembers
returns-clause-remembers c = remembers_end_renewing

pub returns-clause-keeps : goal.returns-clause-keeps
returns-clause-keeps c = keeps_ends_renewing

pub returns-clause-refuses : goal.returns-clause-refuses
returns-clause-refuses c = refuses_below_end_renewing

pub returns-clause-begins : goal.returns-clause-begins
returns-clause-begins c = begins_above_its_end

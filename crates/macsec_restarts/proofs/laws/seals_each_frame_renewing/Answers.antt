use Rattle.macsec_restarts.proofs.{RenewingLists.seals_each_frame_renewing, Sends.seals_of_input}
use Rattle.macsec_restarts.proofs.laws.seals_each_frame_renewing.Goals as goal

pub returns-clause-leaves : goal.returns-clause-leaves
returns-clause-leaves c = seals_each_frame_renewing

pub returns-clause-listed : goal.returns-clause-listed
returns-clause-listed c = seals_of_input

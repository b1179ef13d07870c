use Rattle.macsec_secy.proofs.JobsStay.{key_stays, opens_later, seals_later}
use Rattle.macsec_secy.proofs.laws.jobs_stay.Goals as goal

pub returns-clause-keys : goal.returns-clause-keys
returns-clause-keys c = key_stays

pub returns-clause-seals : goal.returns-clause-seals
returns-clause-seals c = seals_later

pub returns-clause-opens : goal.returns-clause-opens
returns-clause-opens c = opens_later

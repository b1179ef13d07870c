-- One clause each, proved in `OctetsGivenUp`.
use Rattle.macsec_reserve.proofs.OctetsGivenUp.{gives_up_octets, keeps_floors, refuses_given_up, stays_given_up, stays_given_up_by}
use Rattle.macsec_reserve.proofs.laws.renewing_gives_up_octets.Goals as goal

pub returns-clause-gives_up : goal.returns-clause-gives_up
returns-clause-gives_up c = gives_up_octets

pub returns-clause-stays : goal.returns-clause-stays
returns-clause-stays c = stays_given_up

pub returns-clause-forever : goal.returns-clause-forever
returns-clause-forever c = stays_given_up_by

pub returns-clause-refuses : goal.returns-clause-refuses
returns-clause-refuses c = refuses_given_up

pub returns-clause-floors : goal.returns-clause-floors
returns-clause-floors c = keeps_floors

-- By the laws of the keeping endpoint.
use Rattle.macsec_c_calls.proofs.GivenUp.{KeeperLaws, gives_up, refuses_octets, stay_given_up}
use Rattle.macsec_c_calls.proofs.laws.refuses_given_up_octets.Goals as goal

pub returns-clause-begins : goal.returns-clause-begins
returns-clause-begins c =
    let it = c.renewing_gives_up_octets.ensures in
    gives_up (record { gives_up = it.gives_up; stays = it.stays; forever = it.forever; refuses = it.refuses })

pub returns-clause-stays : goal.returns-clause-stays
returns-clause-stays c =
    let it = c.renewing_gives_up_octets.ensures in
    stay_given_up (record { gives_up = it.gives_up; stays = it.stays; forever = it.forever; refuses = it.refuses })

pub returns-clause-refuses : goal.returns-clause-refuses
returns-clause-refuses c =
    let it = c.renewing_gives_up_octets.ensures in
    refuses_octets (record { gives_up = it.gives_up; stays = it.stays; forever = it.forever; refuses = it.refuses })

-- A keeping endpoint with an empty journal, by the laws of an endpoint, and one without a journal.
use Rattle.macsec_reserve.proofs.{EndpointLaws.Laws, TheMachine.{is_the_machine, is_the_machine_alone}}
use Rattle.macsec_reserve.proofs.laws.is_the_machine.Goals as goal

pub returns-clause-reserved : goal.returns-clause-reserved
returns-clause-reserved c =
    let laws : Laws = record {
      equal_ivs = c.equal_ivs.ensures;
      keys_apart = c.keys_stay.ensures.apart;
      keys_stay = c.keys_stay.ensures.stay;
      protects = c.protects_frames.ensures;
    } in
    is_the_machine laws

pub returns-clause-alone : goal.returns-clause-alone
returns-clause-alone c = is_the_machine_alone

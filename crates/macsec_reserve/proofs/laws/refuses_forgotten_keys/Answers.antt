-- Octets that were installed are known and refused, by the laws of an endpoint about its keys.
use Rattle.macsec_reserve.proofs.{KnownKeys.{becomes_known, refuses_known, stays_known}, Replaced.KeyLaws}
use Rattle.macsec_reserve.proofs.laws.refuses_forgotten_keys.Goals as goal

pub returns-clause-begins : goal.returns-clause-begins
returns-clause-begins c = becomes_known

pub returns-clause-stays : goal.returns-clause-stays
returns-clause-stays c =
    let laws : KeyLaws = record {
      keys_apart = c.keys_stay.ensures.apart;
      keys_stay = c.keys_stay.ensures.stay;
      stays_agreed = c.rows_agree.ensures.step;
      gives_up = c.retired_keys_decide_nothing.ensures.begins;
      stays_given_up = c.retired_keys_decide_nothing.ensures.stays;
      alike = c.retired_keys_decide_nothing.ensures.alike;
    } in
    stays_known laws

pub returns-clause-refuses : goal.returns-clause-refuses
returns-clause-refuses c = refuses_known

-- The first promise with renewing, by the laws of an endpoint.
use Rattle.macsec_reserve.proofs.{EndpointLaws.Laws, RenewingRuns.{octets_have_one_key, repeats_no_iv_renewing}, Replaced.KeyLaws}
use Rattle.macsec_reserve.proofs.laws.renews_keys_safely.Goals as goal

pub returns-clause-ivs : goal.returns-clause-ivs
returns-clause-ivs c =
    let keys : KeyLaws = record {
      keys_apart = c.keys_stay.ensures.apart;
      keys_stay = c.keys_stay.ensures.stay;
      stays_agreed = c.rows_agree.ensures.step;
      gives_up = c.retired_keys_decide_nothing.ensures.begins;
      stays_given_up = c.retired_keys_decide_nothing.ensures.stays;
      alike = c.retired_keys_decide_nothing.ensures.alike;
    } in
    let laws : Laws = record {
      equal_ivs = c.equal_ivs.ensures;
      keys_apart = c.keys_stay.ensures.apart;
      keys_stay = c.keys_stay.ensures.stay;
      protects = c.protects_frames.ensures;
    } in
    λ k inputs. repeats_no_iv_renewing keys laws inputs k

pub returns-clause-octets : goal.returns-clause-octets
returns-clause-octets c =
    let keys : KeyLaws = record {
      keys_apart = c.keys_stay.ensures.apart;
      keys_stay = c.keys_stay.ensures.stay;
      stays_agreed = c.rows_agree.ensures.step;
      gives_up = c.retired_keys_decide_nothing.ensures.begins;
      stays_given_up = c.retired_keys_decide_nothing.ensures.stays;
      alike = c.retired_keys_decide_nothing.ensures.alike;
    } in
    let laws : Laws = record {
      equal_ivs = c.equal_ivs.ensures;
      keys_apart = c.keys_stay.ensures.apart;
      keys_stay = c.keys_stay.ensures.stay;
      protects = c.protects_frames.ensures;
    } in
    octets_have_one_key keys laws

-- The first promise of the runs' own keys, by the laws of an endpoint.
use Rattle.macsec_reserve.proofs.{
  EndpointLaws.Laws,
  OfKeys.{repeats_no_iv_of_keys, repeats_no_iv_of_keys_forgetting},
  Replaced.KeyLaws,
}
use Rattle.macsec_reserve.proofs.laws.repeats_no_iv_of_keys.Goals as goal

pub returns-clause-kept : goal.returns-clause-kept
returns-clause-kept c =
    let laws : Laws = record {
      equal_ivs = c.equal_ivs.ensures;
      keys_apart = c.keys_stay.ensures.apart;
      keys_stay = c.keys_stay.ensures.stay;
      protects = c.protects_frames.ensures;
    } in
    repeats_no_iv_of_keys laws

pub returns-clause-forgetting : goal.returns-clause-forgetting
returns-clause-forgetting c =
    let keys : KeyLaws = record {
      keys_apart = c.keys_stay.ensures.apart;
      keys_stay = c.keys_stay.ensures.stay;
      stays_agreed = c.rows_agree.ensures.step;
      gives_up = c.retired_keys_decide_nothing.ensures.begins;
      stays_given_up = c.retired_keys_decide_nothing.ensures.stays;
      alike = c.retired_keys_decide_nothing.ensures.alike;
    } in
    let laws : Laws = record {
      equal_ivs = c.equal_ivs.ensures;
      keys_apart = c.keys_stay.ensures.apart;
      keys_stay = c.keys_stay.ensures.stay;
      protects = c.protects_frames.ensures;
    } in
    repeats_no_iv_of_keys_forgetting keys c.rows_agree.ensures.start laws

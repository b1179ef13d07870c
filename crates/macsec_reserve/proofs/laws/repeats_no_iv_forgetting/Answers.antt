-- The first promise with forgetting, by the laws of an endpoint.
use Rattle.macsec_reserve.proofs.{EndpointLaws.Laws, ForgettingRuns.repeats_no_iv_forgetting, Replaced.KeyLaws}
use Rattle.macsec_reserve.proofs.laws.repeats_no_iv_forgetting.Goals as goal

pub returns : goal.returns
returns c =
    let keys : KeyLaws = record {
      keys_apart = c.keys_stay.ensures.apart;
      keys_stay = c.keys_stay.ensures.stay;
      stays_agreed = c.rows_agree.ensures.step;
      gives_up = c.retired_keys_decide_nothing.ensures.begins;
      stays_given_up = c.retired_keys_decide_nothing.ensures.stays;
      alike = c.retired_keys_decide_nothing.ensures.alike;
    } in
    let laws : Laws = record {
      equal_ivs = c.equal_ivs.ensures;
      keys_apart = c.keys_stay.ensures.apart;
      keys_stay = c.keys_stay.ensures.stay;
      protects = c.protects_frames.ensures;
    } in
    repeats_no_iv_forgetting keys c.rows_agree.ensures.start laws

-- The first promise at two ends, by the laws of an endpoint.
use Rattle.macsec_reserve.proofs.{
  EndpointLaws.Laws,
  TwoEnds.{repeats_no_iv_at_both, repeats_no_iv_at_both_after_crashes},
}
use Rattle.macsec_reserve.proofs.laws.repeats_no_iv_at_both.Goals as goal

pub returns-clause-durable : goal.returns-clause-durable
returns-clause-durable c =
    let laws : Laws = record {
      equal_ivs = c.equal_ivs.ensures;
      keys_apart = c.keys_stay.ensures.apart;
      keys_stay = c.keys_stay.ensures.stay;
      protects = c.protects_frames.ensures;
    } in
    repeats_no_iv_at_both laws

pub returns-clause-crashes : goal.returns-clause-crashes
returns-clause-crashes c =
    let laws : Laws = record {
      equal_ivs = c.equal_ivs.ensures;
      keys_apart = c.keys_stay.ensures.apart;
      keys_stay = c.keys_stay.ensures.stay;
      protects = c.protects_frames.ensures;
    } in
    repeats_no_iv_at_both_after_crashes laws

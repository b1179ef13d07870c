-- A run with forgetting, compared with the same run without, by the laws of an endpoint about its keys.
use Rattle.macsec_reserve.proofs.{
  ForgettingRuns.{forgets_alike, forgets_alike_alone},
  KnownKeys.is_as_before,
  Replaced.KeyLaws,
}
use Rattle.macsec_reserve.proofs.laws.forgets_alike.Goals as goal

pub returns-clause-before : goal.returns-clause-before
returns-clause-before c = is_as_before

pub returns-clause-alike : goal.returns-clause-alike
returns-clause-alike c =
    let laws : KeyLaws = record {
      keys_apart = c.keys_stay.ensures.apart;
      keys_stay = c.keys_stay.ensures.stay;
      stays_agreed = c.rows_agree.ensures.step;
      gives_up = c.retired_keys_decide_nothing.ensures.begins;
      stays_given_up = c.retired_keys_decide_nothing.ensures.stays;
      alike = c.retired_keys_decide_nothing.ensures.alike;
    } in
    forgets_alike laws c.rows_agree.ensures.start

pub returns-clause-alone : goal.returns-clause-alone
returns-clause-alone c =
    let laws : KeyLaws = record {
      keys_apart = c.keys_stay.ensures.apart;
      keys_stay = c.keys_stay.ensures.stay;
      stays_agreed = c.rows_agree.ensures.step;
      gives_up = c.retired_keys_decide_nothing.ensures.begins;
      stays_given_up = c.retired_keys_decide_nothing.ensures.stays;
      alike = c.retired_keys_decide_nothing.ensures.alike;
    } in
    forgets_alike_alone laws c.rows_agree.ensures.start

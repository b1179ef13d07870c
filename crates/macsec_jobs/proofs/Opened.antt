-- What a job needs and gives.
use Rattle.{
  std.proofs.Common.{◌≡◌, ℕ, List, subst, ◌∙◌, Option, Some, None, IfSome},
  macsec_suite.specs.Keys.PreparedKey,
  macsec_rx.specs.{Opened.IsOpenedBy, declared.{OpenJob.OpenJob, OpenedFrame.OpenedFrame}},
  macsec_secy.specs.Jobs.IsOfJob,
  macsec_jobs.specs.{
    PlannedKeys.key_of,
    Slots.{IsOpenedFrom, IsWork},
    declared.{planned_key.PlannedKey.PlannedKey, work.Work.{Work, TheVariants.Open}},
  },
}

-- the job of a slot is for its key
pub openable : (work : Work) (job : OpenJob) (key : PlannedKey) (frame out : List ℕ) → work ≡ Open job → IsWork work key frame out → job.key ≡ key.number
openable work job key frame out is it = subst (λ (w : Work). IsWork w key frame out) is it

-- what the job gave was opened with the slot's key
pub opened_from : (opened : Option OpenedFrame) (job : OpenJob) (prepared : PreparedKey) (key : PlannedKey) (frame out : List ℕ) → job.key ≡ key.number → prepared ≡ key_of key →
    IfSome opened (λ o. IsOfJob o job prepared frame out) → IfSome opened (λ o. IsOpenedFrom o key frame out)
opened_from None job prepared key frame out number same is = tt
opened_from (Some o) job prepared key frame out number same is = record {
  number = is.key ∙ number;
  opened = λ p read. subst (λ (q : PreparedKey). IsOpenedBy o q p out) same (is.opened p read);
}

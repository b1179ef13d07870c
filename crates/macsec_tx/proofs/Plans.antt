-- Noting a used packet number keeps each key as it was prepared.
use Rattle.{
  std.proofs.Common.{◌≡◌, ℕ, Bool, true, false, List, [], ◌∷◌, refl, ap, sym, ◌∙◌, ◌==◌, if◌then◌else◌, Some},
  std.proofs.Common.unwrap_or,
  macsec_suite.{
    proofs.KeyIndex.IsPlace-with_key,
    specs.KeyRows.{InstalledKey, at_number, key_row, keys_noting, no_key, prepared_key, row_noting, the_key},
    specs.Keys.PreparedKey,
  },
  macsec_tx.specs.{
    Answers.{PlansLeaving, Seals, frame_sealed},
    Transmit.{Leaving, protected},
    declared.{SealJob.SealJob, TxPlan.{TxPlan, TheVariants.{Plain, Job, NoSa, TooLong}}},
  },
}

-- the row, with the packet number noted or not, has the same number and the same prepared key
record IsSameKey (row other : InstalledKey) : Type 0 where
  number : other.number ≡ row.number
  prepared : prepared_key other ≡ prepared_key row

same_row : (pn number : ℕ) (row : InstalledKey) → IsSameKey row (at_number (row_noting pn) number row)
same_row pn number row = by_test (row.number == number)
  where
    by_test : (b : Bool) → IsSameKey row (if b then row_noting pn row else row)
    by_test true = record { number = refl; prepared = refl }
    by_test false = record { number = refl; prepared = refl }

-- the key of each number is prepared as before
prepared_stays : (keys : List InstalledKey) (number pn n : ℕ) → prepared_key (the_key (keys_noting keys number pn) n) ≡ prepared_key (the_key keys n)
prepared_stays [] number pn n = refl
prepared_stays (row ∷ keys) number pn n =
    let same = same_row pn number row in rw same.number (by_test (row.number == n) (prepared_stays keys number pn n))
  where
    by_test : (b : Bool) → prepared_key (the_key (keys_noting keys number pn) n) ≡ prepared_key (the_key keys n)
        → prepared_key (unwrap_or (if b then Some (at_number (row_noting pn) number row) else key_row (keys_noting keys number pn) n) no_key)
        ≡ prepared_key (unwrap_or (if b then Some row else key_row keys n) no_key)
    by_test true rest = (same_row pn number row).prepared
    by_test false rest = rest

-- the job still seals what is sent
seals_after : (job : SealJob) (keys : List InstalledKey) (number pn : ℕ) (frame : List ℕ) (leaving : Leaving) → Seals job keys frame leaving
    → Seals job (keys_noting keys number pn) frame leaving
seals_after job keys number pn frame leaving seals = record {
  place = IsPlace-with_key (row_noting pn) (λ row. refl) number keys job.key seals.place;
  sends = seals.sends ∙ ap (λ (key : PreparedKey). protected job.key.number (frame_sealed key job frame)) (sym (prepared_stays keys number pn job.key.number));
}

-- a plan still says what is sent after a packet number is noted
pub plans_after : (plan : TxPlan) (keys : List InstalledKey) (number pn : ℕ) (frame : List ℕ) (leaving : Leaving) → PlansLeaving plan keys frame leaving
    → PlansLeaving plan (keys_noting keys number pn) frame leaving
plans_after Plain keys number pn frame leaving plans = plans
plans_after (Job job) keys number pn frame leaving plans = seals_after job keys number pn frame leaving plans
plans_after NoSa keys number pn frame leaving plans = plans
plans_after TooLong keys number pn frame leaving plans = plans

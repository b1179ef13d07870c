-- Where deleted SAs ended is remembered by endpoints that renew keys, until the key is given up.
use Rattle.macsec_ahead.specs.{Ahead.kept, Renewing.{ahead_after_renewing, unless_refused}}
use Rattle.macsec_reserve.specs.Renewing.{forgetting_refusal}
use Rattle.macsec_restarts.{
  proofs.{
    AheadEnds.{StaysUnless, without_other},
    ForgettingEnds.{forgetting_ends_step, refuses_below_end_forgetting, remembers_end_forgetting},
    Names.{[], ◌==◌, ◌∙◌, ◌∷◌, ◌≡◌, ◌≤◌, ◌⊎◌, Ahead, All-contains, ap, arith, Bool, contained, end_of, end_of_row},
    Names.{endpoint_input, endpoint_output, eqb-true, false, inl, Inputs, inr, IsGivenUp, IsSome, IsSound},
    Names.{KeepingInput, List, None, operator_command, Option, refl, refused, Refusal, rx_row, RxRow, RxSa, Sci, Some},
    Names.{State, suc, sym, take, true, ℕ},
    RenewingSteps.{forgets, IsStep, key_step, renewing_is, renews, rx_renewing, stays, StaysUnlessUp, up_or_stays},
    RowSteps.found_row,
  },
  specs.{
    RenewingEnds.{BeginsAboveItsEnd, IsGivenUpIn, KeepsEndsRenewing, RefusesBelowEndRenewing, RemembersEndRenewing},
    RenewingRuns.{ahead_renewing_after, ahead_renewing_step},
  },
}
use Rattle.macsec_rx.specs.Channels.{Channels}
use Rattle.macsec_suite.specs.{
  KeyRows.key_row,
  declared.{key_row.NewKey.NewKey, refusal.Refusal.TheVariants.PnFloor},
}

-- ---- a step

pub remembers_by : (a after : Ahead) → IsStep a after → (row : RxRow) → a.k.keeps ≡ true →
    rx_row a.k.secy.rx.rows row.sci row.an ≡ Some row → rx_row after.k.secy.rx.rows row.sci row.an ≡ None →
    end_of_row row ≤ end_of after.ended row.key row.sci row.an
remembers_by a _ (forgets input) row keeps there gone = remembers_end_forgetting a input row keeps there gone
remembers_by a _ (renews key) row keeps there gone =
    let no : None ≡ Some row = sym gone ∙ ap (λ (x : Channels). rx_row x.rows row.sci row.an)
    (rx_renewing (forgetting_refusal a.k key) key a) ∙ there in cc
remembers_by a _ stays row keeps there gone = let no : None ≡ Some row = sym gone ∙ there in cc

-- the key is given up before the step or after it, or the table says no less of the SA
abbrev StaysUnlessEver : Ahead → Ahead → ℕ → Sci → ℕ → Type 0
StaysUnlessEver a after key sci an = IsGivenUp a.k.secy key ⊎ StaysUnless a after key sci an

after_key : (a : Ahead) (new : NewKey) (key : ℕ) (sci : Sci) (an : ℕ) → IsSome (key_row a.k.secy.keys key) →
    StaysUnlessEver a (ahead_after_renewing a new) key sci an
after_key a new key sci an there = by_refusal (forgetting_refusal a.k new) refl
  where
    differs : (key ≡ new.number → ⊥) → (b : Bool) → (key == new.number) ≡ b → b ≡ false
    differs other true same = absurd (other (eqb-true key new.number same))
    differs other false _ = refl

    by_case : IsGivenUp a.k.secy key ⊎ (key ≡ new.number → ⊥) →
        StaysUnlessEver a (unless_refused None new a) key sci an
    by_case (inl up) = inl up
    by_case (inr other) = inr (inr (omega (
      arith,
      without_other new.number a.ended key sci an (differs other (key == new.number) refl),
    )))

    by_refusal : (r : Option Refusal) → forgetting_refusal a.k new ≡ r →
        StaysUnlessEver a (unless_refused r new a) key sci an
    by_refusal (Some r) is = inr (inr (omega arith))
    by_refusal None is = by_case (up_or_stays a new key there is)

ends_step : (a after : Ahead) → IsStep a after → (key : ℕ) (sci : Sci) (an : ℕ) → IsSome (key_row a.k.secy.keys key) →
    StaysUnlessEver a after key sci an
ends_step a _ (forgets input) key sci an there = inr (forgetting_ends_step a input key sci an)
ends_step a _ (renews new) key sci an there = after_key a new key sci an there
ends_step a _ stays key sci an there = inr (inr (omega arith))

-- the key of each SA is in the table
pub row_key : (s : State) → IsSound s → (sci : Sci) (an : ℕ) (row : RxRow) → rx_row s.rx.rows sci an ≡ Some row →
    IsSome (key_row s.keys row.key)
row_key s sound sci an row there = All-contains (λ r. IsSome (key_row s.keys r.key)) s.rx.rows row sound.rx_keys
    (contained s.rx.rows row (found_row sci an s.rx.rows row there))

-- ---- several steps

module _ {C : Type 0} (step : Ahead → C → Ahead) (is_step : (a : Ahead) (c : C) → IsStep a (step a c)) where
  abbrev pub after_steps : Ahead → List C → Ahead
  after_steps a [] = a
  after_steps a (c ∷ cs) = after_steps (step a c) cs

  -- at some moment the key is given up
  abbrev pub IsUpIn : Ahead → List C → ℕ → Type 0
  IsUpIn a cs key = (m : ℕ) × IsGivenUp (after_steps a (take m cs)).k.secy key

  later : (a : Ahead) (c : C) (cs : List C) (key : ℕ) → IsUpIn (step a c) cs key → IsUpIn a (c ∷ cs) key
  later a c cs key it = (suc it.0, it.1)

  pub keeps_ends : (cs : List C) (a : Ahead) (key : ℕ) (sci : Sci) (an : ℕ) → IsSome (key_row a.k.secy.keys key) →
      IsUpIn a cs key ⊎ (end_of a.ended key sci an ≤ end_of (after_steps a cs).ended key sci an)
  keeps_ends [] a key sci an there = inr (omega arith)
  keeps_ends (c ∷ cs) a key sci an there =
      by_step (key_step a next (is_step a c) key there) (ends_step a next (is_step a c) key sci an there)
      (keeps_ends cs next key sci an)
    where
      next : Ahead
      next = step a c

      Goal : Type 0
      Goal = IsUpIn a (c ∷ cs) key ⊎ (end_of a.ended key sci an ≤ end_of (after_steps next cs).ended key sci an)

      by_rest : end_of a.ended key sci an ≤ end_of next.ended key sci an → IsUpIn next cs key
          ⊎ (end_of next.ended key sci an ≤ end_of (after_steps next cs).ended key sci an) → Goal
      by_rest grows (inl it) = inl (later a c cs key it)
      by_rest grows (inr more) = inr (omega (arith, grows, more))

      by_step : StaysUnlessUp a.k.secy next.k.secy key → StaysUnlessEver a next key sci an →
          (IsSome (key_row next.k.secy.keys key) → IsUpIn next cs key
          ⊎ (end_of next.ended key sci an ≤ end_of (after_steps next cs).ended key sci an)) → Goal
      by_step (inl up) ends rest = inl (0, up)
      by_step same (inl up) rest = inl (0, up)
      by_step (inr (inl up)) ends rest = inl (1, up)
      by_step same (inr (inl up)) rest = inl (1, up)
      by_step (inr (inr same)) (inr (inr grows)) rest = by_rest grows (rest same.there)

  -- where an SA ended that the first step deleted
  pub keeps_end : (a : Ahead) (c : C) (cs : List C) (row : RxRow) → IsSound a.k.secy → a.k.keeps ≡ true →
      rx_row a.k.secy.rx.rows row.sci row.an ≡ Some row → rx_row (step a c).k.secy.rx.rows row.sci row.an ≡ None →
      IsUpIn a (c ∷ cs) row.key ⊎ (end_of_row row ≤ end_of (after_steps (step a c) cs).ended row.key row.sci row.an)
  keeps_end a c cs row sound keeps there gone =
      by_key (key_step a next (is_step a c) row.key (row_key a.k.secy sound row.sci row.an row there))
    where
      next : Ahead
      next = step a c

      Goal : Type 0
      Goal = IsUpIn a (c ∷ cs) row.key ⊎ (end_of_row row ≤ end_of (after_steps next cs).ended row.key row.sci row.an)

      by_rest : IsUpIn next cs row.key ⊎ (end_of next.ended row.key row.sci row.an ≤
          end_of (after_steps next cs).ended row.key row.sci row.an) → Goal
      by_rest (inl it) = inl (later a c cs row.key it)
      by_rest (inr more) = inr (omega (arith, remembers_by a next (is_step a c) row keeps there gone, more))

      by_key : StaysUnlessUp a.k.secy next.k.secy row.key → Goal
      by_key (inl up) = inl (0, up)
      by_key (inr (inl up)) = inl (1, up)
      by_key (inr (inr same)) = by_rest (keeps_ends cs next row.key row.sci row.an same.there)

-- ---- a run

abbrev pub next_of : Ahead → KeepingInput → Ahead
next_of a input = (ahead_renewing_step a input).1

pub after_same : (inputs : Inputs) (a : Ahead) →
    after_steps next_of renewing_is a inputs ≡ ahead_renewing_after a inputs
after_same [] a = refl
after_same (input ∷ inputs) a = after_same inputs (next_of a input)

given_up_in : (a : Ahead) (inputs : Inputs) (key : ℕ) → IsUpIn next_of renewing_is a inputs key →
    IsGivenUpIn a inputs key
given_up_in a inputs key it =
    record { moment = it.0; given_up = rw (← after_same (take it.0 inputs) a) it.1 }

pub remembers_end_renewing : (a : Ahead) (input : KeepingInput) (row : RxRow) → RemembersEndRenewing a input row
remembers_end_renewing a input row keeps deleted =
    remembers_by a (next_of a input) (renewing_is a input) row keeps deleted.there deleted.gone

pub keeps_ends_renewing : (a : Ahead) (inputs : Inputs) (key : ℕ) (sci : Sci) (an : ℕ) →
    KeepsEndsRenewing a inputs key sci an
keeps_ends_renewing a inputs key sci an there =
    by_case (keeps_ends next_of renewing_is inputs a key sci an there)
  where
    by_case : IsUpIn next_of renewing_is a inputs key ⊎
        (end_of a.ended key sci an ≤ end_of (after_steps next_of renewing_is a inputs).ended key sci an) →
        IsGivenUpIn a inputs key
        ⊎ (end_of a.ended key sci an ≤ end_of (ahead_renewing_after a inputs).ended key sci an)
    by_case (inl it) = inl (given_up_in a inputs key it)
    by_case (inr more) = inr (rw (← after_same inputs a) more)

pub refuses_below_end_renewing : (a : Ahead) (sci : Sci) (an key ssci lowest : ℕ) →
    RefusesBelowEndRenewing a sci an key ssci lowest
refuses_below_end_renewing a sci an key ssci lowest = refuses_below_end_forgetting a sci an key ssci lowest

pub begins_above_its_end : (a : Ahead) (input : KeepingInput) (inputs : Inputs) (row : RxRow) (ssci lowest : ℕ) →
    BeginsAboveItsEnd a input inputs row ssci lowest
begins_above_its_end a input inputs row ssci lowest sound keeps deleted least below =
    by_case (keeps_end next_of renewing_is a input inputs row sound keeps deleted.there deleted.gone)
  where
    last : Ahead
    last = ahead_renewing_after (next_of a input) inputs

    again : KeepingInput
    again = endpoint_input (operator_command (RxSa row.sci row.an row.key ssci lowest))

    refuses : end_of_row row ≤ end_of last.ended row.key row.sci row.an →
        ahead_renewing_step last again ≡ (kept (endpoint_output (refused PnFloor)), last)
    refuses more =
        refuses_below_end_renewing last row.sci row.an row.key ssci lowest least (omega (arith, below, more))

    by_case : IsUpIn next_of renewing_is a (input ∷ inputs) row.key ⊎ (end_of_row row ≤
        end_of (after_steps next_of renewing_is (next_of a input) inputs).ended row.key row.sci row.an) →
        IsGivenUpIn a (input ∷ inputs) row.key
        ⊎ (ahead_renewing_step last again ≡ (kept (endpoint_output (refused PnFloor)), last))
    by_case (inl it) = inl (given_up_in a (input ∷ inputs) row.key it)
    by_case (inr more) = inr (refuses (rw (← after_same inputs (next_of a input)) more))

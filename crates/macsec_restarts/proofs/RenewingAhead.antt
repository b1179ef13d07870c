-- Several runs of an endpoint that renews keys and can reserve ahead of receiving: what it sends, by the keeping
-- endpoint inside, and what it accepts.
use Rattle.macsec_ahead.specs.{Ahead.kept, Renewing.{ahead_after_renewing, unless_refused}}
use Rattle.macsec_reserve.specs.{
  Forgetting.as_taken,
  Renewing.{forgetting_refusal, unless_refused as unless_not_taken},
  RenewingRuns.{renewing_after, renewing_step},
}
use Rattle.macsec_restarts.{
  proofs.{
    AheadForgets.{forgetting_is, forgetting_stays, forgets_inside, takes_step},
    AheadInside.{by_ahead, IsWithin, none_sent, within_input},
    Forgetting.{option_kept, pairs-map, taken_kept},
    Names.{[], ◌++◌, ◌<◌, ◌∙◌, ◌∷◌, ◌≡◌, ◌≤◌, Ahead, ahead_forgetting_step, All, All-append, All-contains, All-map},
    Names.{All-nil, All-weaker, begins_again, forgetting_step, standing},
    Names.{AllPairs, ap, ap₂, arith, Bool, Contains, Delivery, delivery_name, endpoint_input},
    Names.{EndpointLaws, false, get_or, HasOtherIv, highest, if◌then◌else◌, Inputs, InstalledKey, IsSound, Keeping},
    Names.{KeepingInput, Key, lets_through, List, map, max, newly_accepted, newly_sent, None},
    Names.{now_durable, operator_command, Option, reduced_reserves, Refusal, refl, reported_in, reservations},
    Names.{Rises, Run, RunWith, salt_of, seal_of, sending_name, SentIn, Some, subst, suc, sym, take, true, zero, ℕ},
    RenewingKeepers.{each_between, Goes, goes, is_weaker_renewing, IsBetween, no_iv_if_used_is_kept_renewing},
    RenewingKeepers.RenewingLaws,
    RenewingKeepers.{rises_if_used_is_kept_renewing, seals_renewing_in_all},
  },
  specs.RenewingRuns.{accepted_by_run, accepted_from_renewing, AcceptsAboveIfKeptWith, AcceptsAboveWith},
  specs.RenewingRuns.{AgreeOnKeysWith, AgreeRenewing, ahead_renewing_after, ahead_renewing_step},
  specs.RenewingRuns.{IsSoundRun, IsSoundRunRenewing, IsUsedIn, IsWeakerToAcceptWith, IsWeakerWith},
  specs.RenewingRuns.{KeepsAcceptedWith, KeepsUsedRenewing, KeepsUsedWith, NoIvIfUsedIsKeptWith, opening_of},
  specs.RenewingRuns.{RisesIfUsedIsKeptWith, sent_by_all, sent_by_run, sent_from_renewing, sent_in_all_renewing},
  specs.RenewingRuns.{sent_in_renewing, sent_renewing, states_of, states_renewing, StepsRenewing},
  specs.Used.Covers,
}
use Rattle.macsec_secy.specs.Commands.{uses}
use Rattle.macsec_suite.specs.declared.key_row.NewKey.{NewKey}

-- ---- a step takes the step of the keeping endpoint inside, or nothing changes

pub renewed_inside : (r : Option Refusal) (key : NewKey) (a : Ahead) →
    (unless_refused r key a).k ≡ unless_not_taken r (as_taken a.k key) a.k
renewed_inside None key a = refl
renewed_inside (Some r) key a = refl

pub renews_inside : (a : Ahead) (input : KeepingInput) → lets_through a input ≡ true →
    (ahead_renewing_step a input).1.k ≡ (renewing_step a.k input).1
renews_inside a (endpoint_input (operator_command (Key key))) is = renewed_inside (forgetting_refusal a.k key) key a
renews_inside a input is = forgets_inside a input is

pub renewing_stays : (a : Ahead) (input : KeepingInput) → lets_through a input ≡ false →
    (ahead_renewing_step a input).1 ≡ a
renewing_stays a (endpoint_input (operator_command (Key key))) is = cc
renewing_stays a input is = forgetting_stays a input is

renewing_output : (a : Ahead) (input : KeepingInput) → lets_through a input ≡ true →
    (ahead_renewing_step a input).0 ≡ kept (renewing_step a.k input).0
renewing_output a (endpoint_input (operator_command (Key key))) is = refl
renewing_output a input is = (takes_step a input is).output

pub steps_renewing : (a : Ahead) (input : KeepingInput) → StepsRenewing a input
steps_renewing a input = record {
  takes = λ is. record { output = renewing_output a input is; after = renews_inside a input is };
  stays = renewing_stays a input;
}

step_inside : (a : Ahead) (input : KeepingInput) (b : Bool) → lets_through a input ≡ b →
    (ahead_renewing_step a input).1.k ≡ (if b then (renewing_step a.k input).1 else a.k)
step_inside a input true is = renews_inside a input is
step_inside a input false is = ap (λ x. x.k) (renewing_stays a input is)

-- ---- a run

-- the inputs that reach the keeping endpoint inside
abbrev pub through_renewing : Ahead → Inputs → Inputs
through_renewing a [] = []
through_renewing a (input ∷ inputs) =
    if lets_through a input then input ∷ through_renewing (ahead_renewing_step a input).1 inputs
    else through_renewing (ahead_renewing_step a input).1 inputs

abbrev inside_run : RunWith → Run
inside_run r = record (r.run) { inputs = through_renewing (opening_of r) r.run.inputs }

-- the keeping endpoint at a moment of its run is the one inside at some moment
abbrev pub HasMoment : Ahead → Inputs → Inputs → ℕ → Type 0
HasMoment a those inputs n =
    (m : ℕ) × (renewing_after a.k (take n those) ≡ (ahead_renewing_after a (take m inputs)).k)

pub moment_inside : (inputs : Inputs) (a : Ahead) (n : ℕ) → HasMoment a (through_renewing a inputs) inputs n
moment_inside [] a zero = (0, refl)
moment_inside [] a (suc n) = (0, refl)
moment_inside (input ∷ inputs) a n =
    by_test (lets_through a input) refl (moment_inside inputs (ahead_renewing_step a input).1) n
  where
    after : Ahead
    after = (ahead_renewing_step a input).1

    rest : Inputs
    rest = through_renewing after inputs

    by_test : (b : Bool) → lets_through a input ≡ b → ((m : ℕ) → HasMoment after rest inputs m) → (m : ℕ) →
        HasMoment a (if b then input ∷ rest else rest) (input ∷ inputs) m
    by_test true is later zero = (0, refl)
    by_test true is later (suc m) =
        let it = later m in
        (suc it.0, ap (λ k. renewing_after k (take m rest)) (sym (step_inside a input true is)) ∙ it.1)
    by_test false is later m =
        let it = later m in
        (suc it.0, ap (λ k. renewing_after k (take m rest)) (sym (step_inside a input false is)) ∙ it.1)

sent_inside : (inputs : Inputs) (a : Ahead) →
    sent_renewing a.k (through_renewing a inputs) ≡ sent_from_renewing a inputs
sent_inside [] a = refl
sent_inside (input ∷ inputs) a =
    by_test (lets_through a input) refl (sent_inside inputs (ahead_renewing_step a input).1)
  where
    after : Ahead
    after = (ahead_renewing_step a input).1

    rest : Inputs
    rest = through_renewing after inputs

    by_test : (b : Bool) → lets_through a input ≡ b → sent_renewing after.k rest ≡ sent_from_renewing after inputs →
        sent_renewing a.k (if b then input ∷ rest else rest) ≡ newly_sent a.k input ++ sent_from_renewing after inputs
    by_test true is later = ap (λ k. newly_sent a.k input ++ sent_renewing k rest) (sym (step_inside a input true is))
        ∙ ap (λ xs. newly_sent a.k input ++ xs) later
    by_test false is later = ap (λ k. sent_renewing k rest) (sym (step_inside a input false is)) ∙ later
        ∙ ap (λ xs. xs ++ sent_from_renewing after inputs) (sym (none_sent a input is))

reports_inside : (inputs : Inputs) (a : Ahead) → reported_in (through_renewing a inputs) ≡ reported_in inputs
reports_inside [] a = refl
reports_inside (now_durable r ∷ inputs) a =
    ap (λ rs. r ∷ rs) (reports_inside inputs (ahead_renewing_step a (now_durable r)).1)
reports_inside (endpoint_input input ∷ inputs) a = by_test (lets_through a (endpoint_input input))
    (reports_inside inputs (ahead_renewing_step a (endpoint_input input)).1)
  where
    rest : Inputs
    rest = through_renewing (ahead_renewing_step a (endpoint_input input)).1 inputs

    by_test : (b : Bool) → reported_in rest ≡ reported_in inputs →
        reported_in (if b then endpoint_input input ∷ rest else rest) ≡ reported_in inputs
    by_test true later = later
    by_test false later = later

-- ---- the premises of the keeping endpoints inside

sound_inside : (r : RunWith) → IsSoundRun r → IsSoundRunRenewing (inside_run r)
sound_inside r sound n =
    let it = moment_inside r.run.inputs (opening_of r) n in
    subst (λ (k : Keeping). IsSound k.secy) (sym it.1) (sound it.0)

used_inside : (r : RunWith) (key : InstalledKey) → IsUsedIn (states_renewing (inside_run r)) key →
    IsUsedIn (states_of r) key
used_inside r key it =
    let at = moment_inside r.run.inputs (opening_of r) it.moment in
    record {
      moment = at.0;
      there = subst (λ (k : Keeping). Contains k.secy.keys key) at.1 it.there;
      used = subst (λ (k : Keeping). uses k.secy key.number ≡ true) at.1 it.used;
    }

agree_inside : (r later : RunWith) → AgreeOnKeysWith r later → AgreeRenewing (inside_run r) (inside_run later)
agree_inside r later agree x y first second = agree x y (used_inside r x first) (used_inside later y second)

sent_same : (r : RunWith) → sent_in_renewing (inside_run r) ≡ sent_by_run r
sent_same r = sent_inside r.run.inputs (opening_of r)

abbrev CoversAll : RunWith → List SentIn → List SentIn → Type 0
CoversAll later ys xs = All (λ x. All (Covers later.run x) ys) xs

keeps_inside : (r later : RunWith) → KeepsUsedWith r later → KeepsUsedRenewing (inside_run r) (inside_run later)
keeps_inside r later keeps =
    subst (CoversAll later (sent_in_renewing (inside_run later))) (sym (sent_same r))
    (subst (λ ys. CoversAll later ys (sent_by_run r)) (sym (sent_same later)) keeps)

all_sent_same : (rs : List RunWith) → sent_in_all_renewing (map inside_run rs) ≡ sent_by_all rs
all_sent_same [] = refl
all_sent_same (r ∷ rs) = ap₂ (λ (xs ys : List SentIn). xs ++ ys) (sent_same r) (all_sent_same rs)

all_sound_inside : (rs : List RunWith) → All IsSoundRun rs → All IsSoundRunRenewing (map inside_run rs)
all_sound_inside rs sounds = All-map IsSoundRunRenewing inside_run rs
    (All-weaker IsSoundRun (λ r. IsSoundRunRenewing (inside_run r)) sound_inside rs sounds)

all_keep_inside : (rs : List RunWith) → AllPairs KeepsUsedWith rs → AllPairs KeepsUsedRenewing (map inside_run rs)
all_keep_inside rs keeps = pairs-map inside_run KeepsUsedRenewing rs
    (λ i j d less within. keeps_inside (get_or rs i d) (get_or rs j d) (keeps i j d less within))

all_agree_inside : (rs : List RunWith) → AllPairs AgreeOnKeysWith rs → AllPairs AgreeRenewing (map inside_run rs)
all_agree_inside rs agree = pairs-map inside_run AgreeRenewing rs
    (λ i j d less within. agree_inside (get_or rs i d) (get_or rs j d) (agree i j d less within))

-- ---- what it sends

pub rises_if_used_is_kept_with : EndpointLaws → RenewingLaws → (rs : List RunWith) → RisesIfUsedIsKeptWith rs
rises_if_used_is_kept_with laws renews rs sounds keeps = subst (AllPairs Rises) (all_sent_same rs)
    (rises_if_used_is_kept_renewing laws renews (map inside_run rs) (all_sound_inside rs sounds)
    (all_keep_inside rs keeps))

pub no_iv_if_used_is_kept_with : EndpointLaws → RenewingLaws → (rs : List RunWith) → NoIvIfUsedIsKeptWith rs
no_iv_if_used_is_kept_with laws renews rs sounds agree keeps =
    subst (AllPairs HasOtherIv)
    (sym (seals_renewing_in_all (map inside_run rs)) ∙ ap (λ xs. map seal_of xs) (all_sent_same rs))
    (no_iv_if_used_is_kept_renewing laws renews (map inside_run rs) (all_sound_inside rs sounds)
    (all_agree_inside rs agree) (all_keep_inside rs keeps))

pub is_weaker_with : (r later : RunWith) → IsWeakerWith r later
is_weaker_with r later salt durable =
    let reports : reported_in (through_renewing (opening_of r) r.run.inputs) ≡ reported_in r.run.inputs =
    reports_inside r.run.inputs (opening_of r) in
    let inside : KeepsUsedRenewing (inside_run r) (inside_run later) =
    is_weaker_renewing (inside_run r) (inside_run later) salt (λ name.
    subst (λ rs. highest rs name ≤ highest (reservations later.run.journal) name) (sym reports) (durable name)) in
    subst (λ ys. CoversAll later ys (sent_by_run r)) (sent_same later)
    (subst (CoversAll later (sent_in_renewing (inside_run later))) (sent_same r) inside)

-- what a run sends is above what the journal reserved when it began, and at most what was reported durable to it
pub each_between_with : (r : RunWith) → All (IsBetween (opening_of r).k r.run.inputs) (sent_by_run r)
each_between_with r =
    subst (All (IsBetween (opening_of r).k r.run.inputs)) (sent_same r)
    (All-weaker (IsBetween (opening_of r).k inside) (IsBetween (opening_of r).k r.run.inputs) (λ x it. record {
      above = it.above;
      within = subst (λ rs. x.number ≤ max (highest (opening_of r).k.granted (name_of x)) (highest rs (name_of x)))
          (reports_inside r.run.inputs (opening_of r)) it.within;
    }) (sent_in_renewing (inside_run r)) (each_between inside (opening_of r).k refl))
  where
    inside : Inputs
    inside = through_renewing (opening_of r) r.run.inputs

    name_of : SentIn → List ℕ
    name_of x = sending_name (salt_of r.run.journal) x.seal.key

-- ---- what a step keeps

pub renews_field : (a : Ahead) (input : KeepingInput) → (ahead_forgetting_step a input).1.renews ≡ a.renews
renews_field a (now_durable r) = refl
renews_field a (endpoint_input input) = ap (λ x. x.1.renews) (forgetting_is a input)
    ∙ by_ahead (λ x. x.renews ≡ a.renews) a input (forgetting_step a.k (endpoint_input input)) refl refl
    (begins_again a input) (standing a input)

pub goes_inside : (a : Ahead) (input : KeepingInput) → Goes a.k (ahead_renewing_step a input).1.k
goes_inside a input = by_test (lets_through a input) refl
  where
    by_test : (b : Bool) → lets_through a input ≡ b → Goes a.k (ahead_renewing_step a input).1.k
    by_test true is = subst (Goes a.k) (sym (step_inside a input true is)) (goes a.k input)
    by_test false is = subst (Goes a.k) (sym (step_inside a input false is))
        (record { keeps = refl; salt = refl; floors = λ name. omega arith })

option_by_refusal : (r : Option Refusal) (key : NewKey) (a : Ahead) → (unless_refused r key a).ahead ≡ a.ahead
option_by_refusal None key a = refl
option_by_refusal (Some r) key a = refl

pub option_renewing : (a : Ahead) (input : KeepingInput) → (ahead_renewing_step a input).1.ahead ≡ a.ahead
option_renewing a (endpoint_input (operator_command (Key key))) = option_by_refusal (forgetting_refusal a.k key) key a
option_renewing a input = option_kept a input

taken_by_refusal : (r : Option Refusal) (key : NewKey) (a : Ahead) → (unless_refused r key a).taken ≡ a.taken
taken_by_refusal None key a = refl
taken_by_refusal (Some r) key a = refl

pub taken_renewing : (a : Ahead) (input : KeepingInput) (inputs : Inputs) (name : List ℕ) →
    max (highest (ahead_renewing_step a input).1.taken name) (highest (reported_in inputs) name) ≤
    max (highest a.taken name) (highest (reported_in (input ∷ inputs)) name)
taken_renewing a (endpoint_input (operator_command (Key key))) inputs name =
    let same : highest (ahead_after_renewing a key).taken name ≡ highest a.taken name =
    ap (λ rs. highest rs name) (taken_by_refusal (forgetting_refusal a.k key) key a) in
    omega (arith, same)
taken_renewing a input inputs name = taken_kept a input inputs name

-- ---- what it accepts

pub record IsTaken (a : Ahead) (inputs : Inputs) (d : Delivery) : Type 0 where
  pub above : highest a.k.before (delivery_name a.k.salt d) < d.number
  pub within : d.number ≤ max (highest a.taken (delivery_name a.k.salt d))
      (highest (reported_in inputs) (delivery_name a.k.salt d))

each_taken : (inputs : Inputs) (a : Ahead) → a.ahead ≡ true → All (IsTaken a inputs) (accepted_from_renewing a inputs)
each_taken [] a on = All-nil (IsTaken a [])
each_taken (input ∷ inputs) a on =
    let after = (ahead_renewing_step a input).1 in
    let it = goes_inside a input in
    let P = IsTaken a (input ∷ inputs) in
    All-append P (newly_accepted a input) (accepted_from_renewing after inputs)
    (All-weaker (IsWithin a.k.before a.k.salt (highest a.taken)) P
    (λ d now. record { above = now.above; within = omega (arith, now.within) }) (newly_accepted a input)
    (within_input a on input)) (All-weaker (IsTaken after inputs) P (λ d later.
    let name = delivery_name a.k.salt d in
    let above : highest after.k.before name < d.number =
    subst (λ salt. highest after.k.before (delivery_name salt d) < d.number) it.salt later.above in
    let within : d.number ≤ max (highest after.taken name) (highest (reported_in inputs) name) =
    subst (λ salt. d.number ≤ max (highest after.taken (delivery_name salt d))
    (highest (reported_in inputs) (delivery_name salt d))) it.salt later.within in
    record {
      above = omega (arith, it.floors name, above);
      within = omega (arith, within, taken_renewing a input inputs name);
    }) (accepted_from_renewing after inputs) (each_taken inputs after (option_renewing a input ∙ on)))

pub taken_in : (r : RunWith) → r.ahead ≡ true → (d : Delivery) → Contains (accepted_by_run r) d →
    IsTaken (opening_of r) r.run.inputs d
taken_in r on d there = All-contains (IsTaken (opening_of r) r.run.inputs) (accepted_by_run r) d
    (each_taken r.run.inputs (opening_of r) on) there

above_kept : (r later : RunWith) → KeepsAcceptedWith r later → AcceptsAboveWith r later
above_kept r later keeps d e on here there same = omega (
  arith,
  keeps d e here there same,
  (taken_in later on e there).above,
  reduced_reserves (reservations later.run.journal) (delivery_name (salt_of later.run.journal) e),
)

pub accepts_above_if_kept_with : (rs : List RunWith) → AcceptsAboveIfKeptWith rs
accepts_above_if_kept_with rs keeps i j d less within =
    above_kept (get_or rs i d) (get_or rs j d) (keeps i j d less within)

pub is_weaker_to_accept_with : (r later : RunWith) → IsWeakerToAcceptWith r later
is_weaker_to_accept_with r later on salt durable d e here there same =
    let own = delivery_name (salt_of r.run.journal) d in
    let name : delivery_name (salt_of later.run.journal) e ≡ own = rw (salt, ← same.bytes, ← same.sci, ← same.an) in
    let reaches : d.number ≤ highest (reservations later.run.journal) own =
    omega (arith, (taken_in r on d here).within, durable own) in
    rw name reaches

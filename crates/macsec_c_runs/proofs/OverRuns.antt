-- Runs of calls beside one journal: what is sent, by runs in which each key is installed as a renewal, and what is
-- accepted.
use Rattle.std.proofs.Common.{◌≡◌, ◌∙◌, ◌++◌, ◌∷◌, ◌<◌, ◌≤◌, ℕ, List, [], Bool, true, false, refl, ap₂, sym, subst}
use Rattle.std.proofs.Common.{All, AllPairs, Contains, arith, get_or, map, max}
use Rattle.std.proofs.lemmas.List.Elements.{All-append, All-contains, All-head, All-map, All-nil, All-tail, All-weaker}
use Rattle.macsec_commands.specs.declared.command.Command.TheVariants.{Key}
use Rattle.macsec_secy.specs.Sound.{IsSound}
use Rattle.macsec_secy.specs.Step.{operator_command}
use Rattle.macsec_reserve.proofs.HighestOf.{highest-append}
use Rattle.macsec_reserve.proofs.Reduced.{reduced_reserves}
use Rattle.macsec_reserve.specs.Histories.{reported_in}
use Rattle.macsec_reserve.specs.Journal.{highest, reservations, salt_of}
use Rattle.macsec_reserve.specs.Keeping.{KeepingInput, endpoint_input}
use Rattle.macsec_reserve.specs.Unique.{HasOtherIv}
use Rattle.macsec_ahead.specs.Ahead.{Ahead}
use Rattle.macsec_ahead.specs.Renewing.{installs_given_up, unless_given_up}
use Rattle.macsec_restarts.proofs.AheadForgets.{by_forgetting}
use Rattle.macsec_restarts.proofs.AheadInside.{IsWithin, within_input}
use Rattle.macsec_restarts.proofs.Forgetting.{option_kept, pairs-map, taken_kept}
use Rattle.macsec_restarts.proofs.RenewingAhead.{goes_inside, option_renewing, taken_renewing}
use Rattle.macsec_restarts.proofs.RenewingKeepers.{Goes, goes_forgetting}
use Rattle.macsec_restarts.specs.AheadForgetting.{ahead_forgetting_step}
use Rattle.macsec_restarts.specs.AheadRuns.{delivery_name, newly_accepted}
use Rattle.macsec_restarts.specs.Delivered.{Delivery}
use Rattle.macsec_restarts.specs.Kept.{RunWith}
use Rattle.macsec_restarts.specs.RenewingRuns.{AgreeOnKeysWith, IsSoundRun, IsWeakerWith, KeepsUsedWith}
use Rattle.macsec_restarts.specs.RenewingRuns.{NoIvIfUsedIsKeptWith, RisesIfUsedIsKeptWith, sent_by_all, sent_by_run}
use Rattle.macsec_restarts.specs.Sent.{Rises, SentIn}
use Rattle.macsec_restarts.specs.Used.{seal_of}
use Rattle.macsec_c_calls.specs.GivenUp.{Call, after_call, after_calls, command, durable}
use Rattle.macsec_c_runs.proofs.AsRenewals.{as_run, reports_same, sent_same, state_same, used_same}
use Rattle.macsec_c_runs.specs.Runs.{AcceptsAbove, AcceptsAboveOverCalls, AcceptsOnceOverCalls, AgreeOnKeys, CallRun}
use Rattle.macsec_c_runs.specs.Runs.{IsCovered, IsRun, IsWeaker, IsWeakerToAccept, KeepsAccepted}
use Rattle.macsec_c_runs.specs.Runs.{KeepsUsed, NoIvOverCalls, NumbersRiseOverCalls, accepted, accepted_by, input_of}
use Rattle.macsec_c_runs.specs.Runs.{opening, reported, sent, sent_in_all}

-- ---- the premises, of runs in which each key is installed as a renewal

pub sound_as_run : (r : CallRun) → IsRun r → IsSoundRun (as_run r)
sound_as_run r is n = subst IsSound (sym (state_same r is n)) (is.sound n)

pub agree_as_run : (r later : CallRun) → IsRun r → IsRun later → AgreeOnKeys r later →
    AgreeOnKeysWith (as_run r) (as_run later)
agree_as_run r later is is' agree x y first second = agree x y (used_same r is x first) (used_same later is' y second)

abbrev CoversAll : List ℕ → List SentIn → List SentIn → Type 0
CoversAll journal ys xs = All (λ x. All (IsCovered journal x) ys) xs

pub keeps_as_run : (r later : CallRun) → IsRun r → IsRun later → KeepsUsed r later →
    KeepsUsedWith (as_run r) (as_run later)
keeps_as_run r later is is' keeps =
    subst (CoversAll later.journal (sent_by_run (as_run later))) (sym (sent_same r is))
    (subst (λ ys. CoversAll later.journal ys (sent r)) (sym (sent_same later is')) keeps)

pub all_sent : (rs : List CallRun) → All IsRun rs → sent_by_all (map as_run rs) ≡ sent_in_all rs
all_sent [] are = refl
all_sent (r ∷ rs) are = ap₂ (λ (xs ys : List SentIn). xs ++ ys) (sent_same r (All-head IsRun r rs are))
    (all_sent rs (All-tail IsRun r rs are))

pub all_sound : (rs : List CallRun) → All IsRun rs → All IsSoundRun (map as_run rs)
all_sound rs are =
    All-map IsSoundRun as_run rs (All-weaker IsRun (λ r. IsSoundRun (as_run r)) sound_as_run rs are)

module _ (R : CallRun → CallRun → Type 0) (Q : RunWith → RunWith → Type 0)
    (each : (r later : CallRun) → IsRun r → IsRun later → R r later → Q (as_run r) (as_run later)) where
  pub pairs_as_run : (rs : List CallRun) → All IsRun rs → AllPairs R rs → AllPairs Q (map as_run rs)
  pairs_as_run rs are pairs = pairs-map as_run Q rs
      (λ i j d before within. each (get_or rs i d) (get_or rs j d)
      (are i d (omega (arith, before, within))) (are j d within) (pairs i j d before within))

  pub both_as_run : (rs others : List CallRun) → All IsRun rs → All IsRun others → All (λ r. All (R r) others) rs →
      All (λ r. All (Q r) (map as_run others)) (map as_run rs)
  both_as_run rs others are others_are both = All-map (λ r. All (Q r) (map as_run others)) as_run rs
      (λ i d within. All-map (Q (as_run (get_or rs i d))) as_run others
      (λ j d' within'. each (get_or rs i d) (get_or others j d') (are i d within) (others_are j d' within')
      (both i d within j d' within')))

-- ---- what is sent

pub numbers_rise_over_calls : ((runs : List RunWith) → RisesIfUsedIsKeptWith runs) → (rs : List CallRun) →
    NumbersRiseOverCalls rs
numbers_rise_over_calls law rs are keeps = subst (AllPairs Rises) (all_sent rs are)
    (law (map as_run rs) (all_sound rs are) (pairs_as_run KeepsUsed KeepsUsedWith keeps_as_run rs are keeps))

pub no_iv_over_calls : ((runs : List RunWith) → NoIvIfUsedIsKeptWith runs) → (rs : List CallRun) → NoIvOverCalls rs
no_iv_over_calls law rs are agree keeps =
    subst (λ xs. AllPairs HasOtherIv (map seal_of xs)) (all_sent rs are)
    (law (map as_run rs) (all_sound rs are)
    (pairs_as_run AgreeOnKeys AgreeOnKeysWith agree_as_run rs are agree)
    (pairs_as_run KeepsUsed KeepsUsedWith keeps_as_run rs are keeps))

-- it is enough to read what was reported durable
pub is_weaker : ((run later : RunWith) → IsWeakerWith run later) → (r later : CallRun) → IsWeaker r later
is_weaker law r later is is' salt durable' =
    let inside : KeepsUsedWith (as_run r) (as_run later) = law (as_run r) (as_run later) salt (λ name.
    subst (λ rs. highest rs name ≤ highest (reservations later.journal) name)
    (sym (reports_same r.calls (opening r))) (durable' name)) in
    subst (λ ys. CoversAll later.journal ys (sent r)) (sent_same later is')
    (subst (CoversAll later.journal (sent_by_run (as_run later))) (sent_same r is) inside)

-- ---- what is accepted

forgetting_goes : (e : Ahead) (input : KeepingInput) → Goes e.k (ahead_forgetting_step e input).1.k
forgetting_goes e input = by_forgetting (Goes e.k) e input
    (record { keeps = refl; salt = refl; floors = λ name. omega arith }) (goes_forgetting e.k input)

record Keeps (e after : Ahead) : Type 0 where
  option : after.ahead ≡ e.ahead
  goes : Goes e.k after.k

call_keeps : (e : Ahead) (call : Call) → Keeps e (after_call e call)
call_keeps e (command (Key key)) = by_given (installs_given_up e (Key key))
  where
    input : KeepingInput
    input = endpoint_input (operator_command (Key key))

    by_given : (b : Bool) → Keeps e (unless_given_up b e (Key key)).1
    by_given true =
        record { option = refl; goes = record { keeps = refl; salt = refl; floors = λ name. omega arith } }
    by_given false = record { option = option_kept e input; goes = forgetting_goes e input }
call_keeps e call = record { option = option_renewing e (input_of call); goes = goes_inside e (input_of call) }

pub still_keeps : (calls : List Call) (e : Ahead) → e.k.keeps ≡ true → (after_calls e calls).k.keeps ≡ true
still_keeps [] e keeps = keeps
still_keeps (call ∷ calls) e keeps =
    let it = call_keeps e call in still_keeps calls (after_call e call) (it.goes.keeps ∙ keeps)

one_taken : (e : Ahead) (call : Call) (name : List ℕ) → highest (after_call e call).taken name ≤
    max (highest e.taken name) (highest (reported_in (input_of call ∷ [])) name)
one_taken e (command (Key key)) name = by_given (installs_given_up e (Key key))
  where
    by_given : (b : Bool) → highest (unless_given_up b e (Key key)).1.taken name ≤ max (highest e.taken name) 0
    by_given true = omega arith
    by_given false = omega (arith, taken_kept e (endpoint_input (operator_command (Key key))) [] name)
one_taken e call name = omega (arith, taken_renewing e (input_of call) [] name)

reported_first : (call : Call) (calls : List Call) (name : List ℕ) → highest (reported (call ∷ calls)) name ≡
    max (highest (reported_in (input_of call ∷ [])) name) (highest (reported calls) name)
reported_first (durable r) calls name = highest-append (r ∷ []) (reported calls) name
reported_first call calls name = omega arith

record IsTaken (e : Ahead) (calls : List Call) (d : Delivery) : Type 0 where
  above : highest e.k.before (delivery_name e.k.salt d) < d.number
  within : d.number ≤ max (highest e.taken (delivery_name e.k.salt d))
      (highest (reported calls) (delivery_name e.k.salt d))

each_taken : (calls : List Call) (e : Ahead) → e.ahead ≡ true → All (IsTaken e calls) (accepted_by e calls)
each_taken [] e on = All-nil (IsTaken e [])
each_taken (call ∷ calls) e on =
    let after = after_call e call in
    let it = call_keeps e call in
    let P = IsTaken e (call ∷ calls) in
    All-append P (newly_accepted e (input_of call)) (accepted_by after calls)
    (All-weaker (IsWithin e.k.before e.k.salt (highest e.taken)) P
    (λ d now. record { above = now.above; within = omega (arith, now.within) })
    (newly_accepted e (input_of call)) (within_input e on (input_of call)))
    (All-weaker (IsTaken after calls) P (λ d later.
    let name = delivery_name e.k.salt d in
    let above : highest after.k.before name < d.number =
    subst (λ salt. highest after.k.before (delivery_name salt d) < d.number) it.goes.salt later.above in
    let within : d.number ≤ max (highest after.taken name) (highest (reported calls) name) =
    subst (λ salt. d.number ≤ max (highest after.taken (delivery_name salt d))
    (highest (reported calls) (delivery_name salt d))) it.goes.salt later.within in
    record {
      above = omega (arith, it.goes.floors name, above);
      within = omega (arith, within, one_taken e call name, reported_first call calls name);
    }) (accepted_by after calls) (each_taken calls after (it.option ∙ on)))

taken_in : (r : CallRun) → r.ahead ≡ true → (d : Delivery) → Contains (accepted r) d → IsTaken (opening r) r.calls d
taken_in r on d there =
    All-contains (IsTaken (opening r) r.calls) (accepted r) d (each_taken r.calls (opening r) on) there

above_kept : (r later : CallRun) → KeepsAccepted r later → AcceptsAbove r later
above_kept r later keeps d e on here there same = omega (
  arith,
  keeps d e here there same,
  (taken_in later on e there).above,
  reduced_reserves (reservations later.journal) (delivery_name (salt_of later.journal) e),
)

pub accepts_above_over_calls : (rs : List CallRun) → AcceptsAboveOverCalls rs
accepts_above_over_calls rs keeps i j d before within =
    above_kept (get_or rs i d) (get_or rs j d) (keeps i j d before within)

-- `AcceptsAbove` is strict
pub accepts_once_over_calls : (rs : List CallRun) → AcceptsOnceOverCalls rs
accepts_once_over_calls rs keeps i j d before within x y on here there same equal =
    let above : x.number < y.number =
    accepts_above_over_calls rs keeps i j d before within x y on here there same in
    omega (arith, above, equal)

pub is_weaker_to_accept : (r later : CallRun) → IsWeakerToAccept r later
is_weaker_to_accept r later on salt durable' d e here there same =
    let own = delivery_name (salt_of r.journal) d in
    let name : delivery_name (salt_of later.journal) e ≡ own = rw (salt, ← same.bytes, ← same.sci, ← same.an) in
    let reaches : d.number ≤ highest (reservations later.journal) own =
    omega (arith, (taken_in r on d here).within, durable' own) in
    rw name reaches

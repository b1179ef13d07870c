-- Two ends of calls as two ends in which each key is installed as a renewal: what happens, and the runs of each end.
use Rattle.std.proofs.Common.{◌≡◌, ◌∙◌, ◌++◌, ◌∷◌, ℕ, zero, suc, List, [], Bool, true, false, Option, Some, None, refl}
use Rattle.std.proofs.Common.{ap, ap₂, sym, subst, if◌then◌else◌, All, AllPairs, append_assoc, map, option_map}
use Rattle.std.proofs.Common.{IfSome, take}
use Rattle.std.proofs.lemmas.List.Elements.{All-cons, All-head, All-nil, All-tail}
use Rattle.macsec_commands.specs.declared.event.End.{End}
use Rattle.macsec_commands.specs.declared.event.End.TheVariants.{A, B}
use Rattle.macsec_secy.specs.Sound.{IsSound}
use Rattle.macsec_reserve.specs.Keeping.{KeepingInput}
use Rattle.macsec_reserve.specs.Unique.{HasOtherIv}
use Rattle.macsec_ahead.specs.Ahead.{Ahead, opened_with}
use Rattle.macsec_counterexamples.proofs.Link.WorkedEnds.{gcm_a}
use Rattle.macsec_restarts.specs.Happenings.{AtEach, Happening, begins as begins_run, comes_in, inputs_until}
use Rattle.macsec_restarts.specs.Happenings.{runs_of as inputs_of, same_end}
use Rattle.macsec_restarts.specs.Delivered.{Delivery}
use Rattle.macsec_restarts.specs.Kept.{RunWith, last_of as last_with, runs_at, runs_with}
use Rattle.macsec_restarts.specs.RenewingOrder.{ArePeersRenewing, AreOfTwoEndsWith, AskedOfLast, IsHistoryWith}
use Rattle.macsec_restarts.specs.RenewingOrder.{IsSameEndWith, NoIvAtBothRenewing, delivered_by_all}
use Rattle.macsec_restarts.specs.RenewingRuns.{AgreeOnKeysWith, KeepsUsedWith, sent_by_all}
use Rattle.macsec_restarts.specs.Used.{seal_of}
use Rattle.macsec_c_calls.specs.GivenUp.{Call, after_call, after_calls}
use Rattle.macsec_c_runs.proofs.AsRenewals.{as_input, as_inputs, as_run, delivered_same, used_same}
use Rattle.macsec_c_runs.proofs.OverRuns.{agree_as_run, all_sent, all_sound, both_as_run, keeps_as_run, pairs_as_run}
use Rattle.macsec_c_runs.specs.Runs.{AgreeOnKeys, CallRun, IsRun, KeepsUsed, opening, sent_in_all}
use Rattle.macsec_c_runs.specs.TwoEnds.{ArePeers, AreOfTwoEnds, AtEachCall, CallHappening, IsHistory, IsSameEnd}
use Rattle.macsec_c_runs.specs.TwoEnds.{NoIvAtBothOverCalls, begins, calls_until, closing, delivered_in_all, last_of}
use Rattle.macsec_c_runs.specs.TwoEnds.{makes, runs_of}

-- ---- the premises on two lists of runs

pub all_delivered : (rs : List CallRun) → All IsRun rs → delivered_by_all (map as_run rs) ≡ delivered_in_all rs
all_delivered [] are = refl
all_delivered (r ∷ rs) are = ap₂ (λ (xs ys : List Delivery). xs ++ ys) (delivered_same r (All-head IsRun r rs are))
    (all_delivered rs (All-tail IsRun r rs are))

two_as_run : (r other : CallRun) → IsRun r → IsRun other → AreOfTwoEnds r other →
    AreOfTwoEndsWith (as_run r) (as_run other)
two_as_run r other is is' two = record {
  sci = two.sci;
  keys = λ x y first second. two.keys x y (used_same r is x first) (used_same other is' y second);
}

one_as_run : (r later : CallRun) → IsRun r → IsRun later → IsSameEnd r later → IsSameEndWith (as_run r) (as_run later)
one_as_run r later is is' one = record {
  sci = one.sci;
  ssci = λ x y first second. one.ssci x y (used_same r is x first) (used_same later is' y second);
}

history_as_run : (rs : List CallRun) → IsHistory rs → IsHistoryWith (map as_run rs)
history_as_run rs it = record {
  sound = all_sound rs it.runs;
  agree = pairs_as_run AgreeOnKeys AgreeOnKeysWith agree_as_run rs it.runs it.agree;
  keeps = pairs_as_run KeepsUsed KeepsUsedWith keeps_as_run rs it.runs it.keeps;
}

pub no_iv_at_both_over_calls : ((ra rb : List RunWith) → NoIvAtBothRenewing ra rb) → (ra rb : List CallRun) →
    NoIvAtBothOverCalls ra rb
no_iv_at_both_over_calls law ra rb a b two =
    subst (λ xs. AllPairs HasOtherIv (map seal_of xs ++ map seal_of (sent_in_all rb))) (all_sent ra a.runs)
    (subst (λ ys. AllPairs HasOtherIv (map seal_of (sent_by_all (map as_run ra)) ++ map seal_of ys))
    (all_sent rb b.runs) (law (map as_run ra) (map as_run rb) (history_as_run ra a) (history_as_run rb b)
    (both_as_run AreOfTwoEnds AreOfTwoEndsWith two_as_run ra rb a.runs b.runs two)))

pub peers_as_run : (ra rb : List CallRun) → All IsRun ra → All IsRun rb → ArePeers ra rb →
    ArePeersRenewing (map as_run ra) (map as_run rb)
peers_as_run ra rb a b peers = record {
  agree_a = pairs_as_run AgreeOnKeys AgreeOnKeysWith agree_as_run ra a peers.agree_a;
  agree_b = pairs_as_run AgreeOnKeys AgreeOnKeysWith agree_as_run rb b peers.agree_b;
  agree = both_as_run AgreeOnKeys AgreeOnKeysWith agree_as_run ra rb a b peers.agree;
  one_a = pairs_as_run IsSameEnd IsSameEndWith one_as_run ra a peers.one_a;
  one_b = pairs_as_run IsSameEnd IsSameEndWith one_as_run rb b peers.one_b;
}

-- ---- what happens: each call as an input of the endpoint of its end

abbrev pub Endpoints : Type 0
Endpoints = End → Ahead

abbrev pub put : End → Ahead → Endpoints → Endpoints
put f x at e = if same_end e f then x else at e

abbrev pub as_events : Endpoints → List CallHappening → List Happening
as_events at [] = []
as_events at (begins f ahead config journal ∷ more) =
    begins_run f config journal ∷ as_events (put f (opened_with ahead config journal) at) more
as_events at (makes f call ∷ more) =
    comes_in f (as_input (at f) call) ∷ as_events (put f (after_call (at f) call) at) more

abbrev after_events : Endpoints → List CallHappening → Endpoints
after_events at [] = at
after_events at (begins f ahead config journal ∷ more) =
    after_events (put f (opened_with ahead config journal) at) more
after_events at (makes f call ∷ more) = after_events (put f (after_call (at f) call) at) more

events-append : (xs ys : List CallHappening) (at : Endpoints) →
    as_events at (xs ++ ys) ≡ as_events at xs ++ as_events (after_events at xs) ys
events-append [] ys at = refl
events-append (begins f ahead config journal ∷ xs) ys at = ap (λ hs. begins_run f config journal ∷ hs)
    (events-append xs ys (put f (opened_with ahead config journal) at))
events-append (makes f call ∷ xs) ys at = ap (λ hs. comes_in f (as_input (at f) call) ∷ hs)
    (events-append xs ys (put f (after_call (at f) call) at))

after-append : (xs ys : List CallHappening) (at : Endpoints) →
    after_events at (xs ++ ys) ≡ after_events (after_events at xs) ys
after-append [] ys at = refl
after-append (begins f ahead config journal ∷ xs) ys at =
    after-append xs ys (put f (opened_with ahead config journal) at)
after-append (makes f call ∷ xs) ys at = after-append xs ys (put f (after_call (at f) call) at)

pub take_events : (k : ℕ) (events : List CallHappening) (at : Endpoints) →
    take k (as_events at events) ≡ as_events at (take k events)
take_events zero events at = refl
take_events (suc k) [] at = refl
take_events (suc k) (begins f ahead config journal ∷ more) at = ap (λ hs. begins_run f config journal ∷ hs)
    (take_events k more (put f (opened_with ahead config journal) at))
take_events (suc k) (makes f call ∷ more) at = ap (λ hs. comes_in f (as_input (at f) call) ∷ hs)
    (take_events k more (put f (after_call (at f) call) at))

-- ---- the runs of an end

inputs_same : (e : End) (events : List CallHappening) (at : Endpoints) →
    inputs_until e (as_events at events) ≡ as_inputs (at e) (calls_until e events)
inputs_same e [] at = refl
inputs_same A (begins A ahead config journal ∷ more) at = refl
inputs_same B (begins B ahead config journal ∷ more) at = refl
inputs_same A (begins B ahead config journal ∷ more) at =
    inputs_same A more (put B (opened_with ahead config journal) at)
inputs_same B (begins A ahead config journal ∷ more) at =
    inputs_same B more (put A (opened_with ahead config journal) at)
inputs_same A (makes A call ∷ more) at =
    ap (λ is. as_input (at A) call ∷ is) (inputs_same A more (put A (after_call (at A) call) at))
inputs_same B (makes B call ∷ more) at =
    ap (λ is. as_input (at B) call ∷ is) (inputs_same B more (put B (after_call (at B) call) at))
inputs_same A (makes B call ∷ more) at = inputs_same A more (put B (after_call (at B) call) at)
inputs_same B (makes A call ∷ more) at = inputs_same B more (put A (after_call (at A) call) at)

-- which of the runs reserve ahead
abbrev first_then : Bool → (ℕ → Bool) → ℕ → Bool
first_then b more zero = b
first_then b more (suc n) = more n

abbrev options : End → List CallHappening → ℕ → Bool
options e [] = λ n. false
options e (begins f ahead config journal ∷ more) =
    if same_end e f then first_then ahead (options e more) else options e more
options e (makes f call ∷ more) = options e more

runs_same : (e : End) (events more : List CallHappening) (at : Endpoints) →
    runs_with (options e (events ++ more)) (inputs_of e (as_events at events)) ≡ map as_run (runs_of e events)
runs_same e [] more at = refl
runs_same A (begins A ahead config journal ∷ events) more at =
    let next = put A (opened_with ahead config journal) at in
    ap₂ (λ (inputs : List KeepingInput) (rs : List RunWith). record {
      ahead = ahead;
      run = record { journal = journal; config = config; inputs = inputs };
    } ∷ rs) (inputs_same A events next) (runs_same A events more next)
runs_same B (begins B ahead config journal ∷ events) more at =
    let next = put B (opened_with ahead config journal) at in
    ap₂ (λ (inputs : List KeepingInput) (rs : List RunWith). record {
      ahead = ahead;
      run = record { journal = journal; config = config; inputs = inputs };
    } ∷ rs) (inputs_same B events next) (runs_same B events more next)
runs_same A (begins B ahead config journal ∷ events) more at =
    runs_same A events more (put B (opened_with ahead config journal) at)
runs_same B (begins A ahead config journal ∷ events) more at =
    runs_same B events more (put A (opened_with ahead config journal) at)
runs_same A (makes A call ∷ events) more at = runs_same A events more (put A (after_call (at A) call) at)
runs_same B (makes B call ∷ events) more at = runs_same B events more (put B (after_call (at B) call) at)
runs_same A (makes B call ∷ events) more at = runs_same A events more (put B (after_call (at B) call) at)
runs_same B (makes A call ∷ events) more at = runs_same B events more (put A (after_call (at A) call) at)

-- ---- the endpoint of an end is the one of its last run

abbrev of_last : Option CallRun → Ahead → Ahead
of_last None x = x
of_last (Some r) x = closing r

there_is_one : (rs : List CallRun) (r : CallRun) (x y : Ahead) →
    of_last (last_of (r ∷ rs)) x ≡ of_last (last_of (r ∷ rs)) y
there_is_one [] r x y = refl
there_is_one (later ∷ rs) r x y = there_is_one rs later x y

one_more : (rs : List CallRun) (r : CallRun) (x : Ahead) →
    of_last (last_of rs) (closing r) ≡ of_last (last_of (r ∷ rs)) x
one_more [] r x = refl
one_more (later ∷ rs) r x = there_is_one rs later (closing r) x

abbrev HasLast : End → List CallHappening → Endpoints → Type 0
HasLast e events at =
    after_events at events e ≡ of_last (last_of (runs_of e events)) (after_calls (at e) (calls_until e events))

has_last : (e : End) (events : List CallHappening) (at : Endpoints) → HasLast e events at
has_last e [] at = refl
has_last A (begins A ahead config journal ∷ more) at =
    has_last A more (put A (opened_with ahead config journal) at)
    ∙ one_more (runs_of A more)
    (record { journal = journal; config = config; ahead = ahead; calls = calls_until A more }) (at A)
has_last B (begins B ahead config journal ∷ more) at =
    has_last B more (put B (opened_with ahead config journal) at)
    ∙ one_more (runs_of B more)
    (record { journal = journal; config = config; ahead = ahead; calls = calls_until B more }) (at B)
has_last A (begins B ahead config journal ∷ more) at = has_last A more (put B (opened_with ahead config journal) at)
has_last B (begins A ahead config journal ∷ more) at = has_last B more (put A (opened_with ahead config journal) at)
has_last A (makes A call ∷ more) at = has_last A more (put A (after_call (at A) call) at)
has_last B (makes B call ∷ more) at = has_last B more (put B (after_call (at B) call) at)
has_last A (makes B call ∷ more) at = has_last A more (put B (after_call (at B) call) at)
has_last B (makes A call ∷ more) at = has_last B more (put A (after_call (at A) call) at)

last_same : (rs : List CallRun) → last_with (map as_run rs) ≡ option_map as_run (last_of rs)
last_same [] = refl
last_same (r ∷ []) = refl
last_same (r ∷ later ∷ rs) = last_same (later ∷ rs)

last_is : (P : CallRun → Type 0) (rs : List CallRun) (r : CallRun) → last_of rs ≡ Some r → All P rs → P r
last_is P [] r is all = cc
last_is P (q ∷ []) r is all =
    let same : q ≡ r = ap (λ (o : Option CallRun). of_some o) is in subst P same (All-head P q [] all)
  where
    of_some : Option CallRun → CallRun
    of_some (Some x) = x
    of_some None = q
last_is P (q ∷ later ∷ rs) r is all = last_is P (later ∷ rs) r is (All-tail P q (later ∷ rs) all)

-- ---- the runs so far are runs

pub first_moments : (n : ℕ) (xs ys : List Call) → (m : ℕ) × (take n xs ≡ take m (xs ++ ys))
first_moments zero xs ys = (0, refl)
first_moments (suc n) [] ys = (0, refl)
first_moments (suc n) (x ∷ xs) ys =
    let it = first_moments n xs ys in (suc it.0, ap (λ zs. x ∷ zs) it.1)

run_less : (r : CallRun) (xs rest : List Call) → r.calls ≡ xs ++ rest → IsRun r → IsRun (record r { calls = xs })
run_less r xs rest is it = record {
  sound = λ n.
      let at = first_moments n xs rest in
      subst (λ cs. IsSound (after_calls (opening r) cs).k.secy) (ap (take at.0) is ∙ sym at.1) (it.sound at.0);
}

pub calls_less : (e : End) (before more : List CallHappening) →
    (rest : List Call) × (calls_until e (before ++ more) ≡ calls_until e before ++ rest)
calls_less e [] more = (calls_until e more, refl)
calls_less A (begins A ahead config journal ∷ before) more = ([], refl)
calls_less B (begins B ahead config journal ∷ before) more = ([], refl)
calls_less A (begins B ahead config journal ∷ before) more = calls_less A before more
calls_less B (begins A ahead config journal ∷ before) more = calls_less B before more
calls_less A (makes A call ∷ before) more =
    let it = calls_less A before more in (it.0, ap (λ cs. call ∷ cs) it.1)
calls_less B (makes B call ∷ before) more =
    let it = calls_less B before more in (it.0, ap (λ cs. call ∷ cs) it.1)
calls_less A (makes B call ∷ before) more = calls_less A before more
calls_less B (makes A call ∷ before) more = calls_less B before more

runs_less : (e : End) (before more : List CallHappening) → All IsRun (runs_of e (before ++ more)) →
    All IsRun (runs_of e before)
runs_less e [] more are = All-nil IsRun
runs_less A (begins A ahead config journal ∷ before) more are =
    let r : CallRun =
    record { journal = journal; config = config; ahead = ahead; calls = calls_until A (before ++ more) } in
    let it = calls_less A before more in
    All-cons IsRun (record r { calls = calls_until A before }) (runs_of A before)
    (run_less r (calls_until A before) it.0 it.1 (All-head IsRun r (runs_of A (before ++ more)) are))
    (runs_less A before more (All-tail IsRun r (runs_of A (before ++ more)) are))
runs_less B (begins B ahead config journal ∷ before) more are =
    let r : CallRun =
    record { journal = journal; config = config; ahead = ahead; calls = calls_until B (before ++ more) } in
    let it = calls_less B before more in
    All-cons IsRun (record r { calls = calls_until B before }) (runs_of B before)
    (run_less r (calls_until B before) it.0 it.1 (All-head IsRun r (runs_of B (before ++ more)) are))
    (runs_less B before more (All-tail IsRun r (runs_of B (before ++ more)) are))
runs_less A (begins B ahead config journal ∷ before) more are = runs_less A before more are
runs_less B (begins A ahead config journal ∷ before) more are = runs_less B before more are
runs_less A (makes f call ∷ before) more are = runs_less A before more are
runs_less B (makes f call ∷ before) more are = runs_less B before more are

-- ---- the happenings, from their first moment on

-- before its first run no call of an end is in a run, so any endpoint will do
abbrev pub none_yet : Endpoints
none_yet e = opened_with false gcm_a []

abbrev pub events_of : List CallHappening → List Happening
events_of events = as_events none_yet events

-- of a list of happenings: whether the runs of an end reserve ahead
abbrev pub ahead_of : List CallHappening → End → ℕ → Bool
ahead_of events e = options e events

module _ (events : List CallHappening) where
  -- the runs of an end before a moment
  pub runs_before : (before more : List CallHappening) → before ++ more ≡ events → (e : End) →
      runs_at (ahead_of events) e (events_of before) ≡ map as_run (runs_of e before)
  runs_before before more is e = subst
      (λ es. runs_with (options e es) (inputs_of e (events_of before)) ≡ map as_run (runs_of e before)) is
      (runs_same e before more none_yet)

  pub are_runs : ((e : End) → All IsRun (runs_of e events)) → (before more : List CallHappening) →
      before ++ more ≡ events → (e : End) → All IsRun (runs_of e before)
  are_runs are before more is e = runs_less e before more (subst (λ es. All IsRun (runs_of e es)) (sym is) (are e))

-- ---- what is asked of each call is asked of each input

same_ends : (e f : End) → same_end e f ≡ true → f ≡ e
same_ends A A is = refl
same_ends B B is = refl
same_ends A B is = cc
same_ends B A is = cc

module _ (events : List CallHappening) (are : (e : End) → All IsRun (runs_of e events)) (e : End)
    (P : List CallHappening → CallRun → Call → Type 0) (Q : List Happening → RunWith → KeepingInput → Type 0)
    (each : (before more : List CallHappening) → before ++ more ≡ events → (r : CallRun) → IsRun r → (call : Call) →
    P before r call → Q (events_of before) (as_run r) (as_input (closing r) call)) where
  abbrev IsAsked : List Happening → Happening → Type 0
  IsAsked = AskedOfLast (ahead_of events) e Q

  abbrev At : List CallHappening → Endpoints
  At before = after_events none_yet before

  here : (before more : List CallHappening) → before ++ more ≡ events → (f : End) (call : Call) →
      (same_end e f ≡ true → IfSome (last_of (runs_of e before)) (λ r. P before r call)) →
      IsAsked (events_of before) (comes_in f (as_input (At before f) call))
  here before more is f call asked same =
      subst (λ g. IfSome (last_with (runs_at (ahead_of events) e (events_of before)))
      (λ r. Q (events_of before) r (as_input (At before g) call))) (sym (same_ends e f same))
      (subst (λ rs. IfSome (last_with rs) (λ r. Q (events_of before) r (as_input (At before e) call)))
      (sym (runs_before events before more is e))
      (subst (λ o. IfSome o (λ r. Q (events_of before) r (as_input (At before e) call)))
      (sym (last_same (runs_of e before))) (by_last (last_of (runs_of e before)) refl (asked same))))
    where
      by_last : (o : Option CallRun) → last_of (runs_of e before) ≡ o → IfSome o (λ r. P before r call) →
          IfSome (option_map as_run o) (λ r. Q (events_of before) r (as_input (At before e) call))
      by_last None last is' = tt
      by_last (Some r) last is' =
          let at : At before e ≡ closing r = has_last e before none_yet
          ∙ ap (λ o. of_last o (after_calls (none_yet e) (calls_until e before))) last in
          subst (λ x. Q (events_of before) (as_run r) (as_input x call)) (sym at)
          (each before more is r (last_is IsRun (runs_of e before) r last (are_runs events are before more is e)) call
          is')

  -- after one more happening
  further : (before : List CallHappening) (h : CallHappening) (more : List CallHappening) → AtEach IsAsked
      (events_of (before ++ h ∷ [])) (as_events (At (before ++ h ∷ [])) more) →
      AtEach IsAsked (events_of before ++ as_events (At before) (h ∷ []))
      (as_events (after_events (At before) (h ∷ [])) more)
  further before h more later = subst (λ hs. AtEach IsAsked hs (as_events (after_events (At before) (h ∷ [])) more))
      (events-append before (h ∷ []) none_yet)
      (subst (λ at. AtEach IsAsked (events_of (before ++ h ∷ [])) (as_events at more))
      (after-append before (h ∷ []) none_yet) later)

  asked_at_each : (more before : List CallHappening) → before ++ more ≡ events → AtEachCall e P before more →
      AtEach IsAsked (events_of before) (as_events (At before) more)
  asked_at_each [] before is asked = tt
  asked_at_each (begins f ahead config journal ∷ more) before is asked = (
    tt,
    further before (begins f ahead config journal) more
        (asked_at_each more (before ++ begins f ahead config journal ∷ [])
        (append_assoc before (begins f ahead config journal ∷ []) more ∙ is) asked),
  )
  asked_at_each (makes f call ∷ more) before is asked = (
    here before (makes f call ∷ more) is f call asked.0,
    further before (makes f call) more (asked_at_each more (before ++ makes f call ∷ [])
        (append_assoc before (makes f call ∷ []) more ∙ is) asked.1),
  )

  pub asked_of_all : AtEachCall e P [] events → AtEach IsAsked [] (events_of events)
  asked_of_all asked = asked_at_each events [] refl asked

-- Two ends in one order of time: the runs of each are those that were begun over its journal. And so order, and each
-- frame at most once.
use Rattle.macsec_journal.specs.{
  Laws.{all_begun, runs_of as runs_in},
  Machine.for_endpoint,
  World.{after_all, answers, beginning, Begun, begins as process_begins, created, ends, Event, happens, lets_go},
  World.{opened_by, opens, orders},
  World.{Process, reports, takes, World},
}
use Rattle.macsec_restarts.{
  proofs.{
    Forgetting.pairs-map,
    Names.{[], ◌++◌, ◌∙◌, ◌∷◌, ◌≡◌, All, All-cons, All-head, All-nil, All-tail, AllPairs, ap, append-nil},
    Names.{append_assoc, arith, begins, Bool, comes_in, End, EndConfig, endpoint_input, EndpointLaws, Events},
    Names.{false, Grammar, if◌then◌else◌, KeepingInput, List, map, map-append, None, now_durable},
    Names.{Option, other_end, refl, Run, runs_at, runs_of, same_end, Some, subst, suc, sym, true, ℕ},
    OnDiskOrder.{Keeps, keeps_used_on_disk},
    Pushed.{run_with, runs_of-begins, runs_of-input, runs_of-other_input, same_is, same_own, with_input, with_last},
    RenewingKeepers.RenewingLaws,
    RenewingKeys.GivingUp,
    RenewingOrder.{all_accepted, comes_in_order_if_kept_renewing},
  },
  specs.{
    Kept.runs_with,
    OnDiskOrder.{AcceptsAll, begun_over, begun_with, BegunWith, ComesInOrderOnDisk, EventAt, events_of, happening_of},
    OnDiskOrder.{happenings, happenings_from, HasTheRuns, journal_at, run_of, TwoJournals, world_of, worlds_after},
    RenewingOrder.{KeepsDeliveredWith, KeepsSentWith},
  },
}

-- ---- the runs of an end after an event

abbrev run_begun : Begun → Run
run_begun b = b.run

-- the last run gets an input
input_last : (input : KeepingInput) (past : List Begun) (b : Begun) →
    with_last input (map run_begun (past ++ b ∷ [])) ≡
    map run_begun (past ++ record b { run = with_input input b.run } ∷ [])
input_last input [] b = refl
input_last input (q ∷ []) b = refl
input_last input (q ∷ later ∷ more) b = ap (λ rs. q.run ∷ rs) (input_last input (later ∷ more) b)

module _ (e : End) (before : Events) where
  nothing_new : (past : List Begun) → runs_of e before ≡ map run_begun past →
      runs_of e (before ++ []) ≡ map run_begun past
  nothing_new past same = ap (runs_of e) (append-nil before) ∙ same

  one_begun : (past : List Begun) (b : Begun) → runs_of e before ≡ map run_begun past → b.run.inputs ≡ [] →
      runs_of e (before ++ begins e b.run.config b.run.journal ∷ []) ≡ map run_begun (past ++ b ∷ [])
  one_begun past b same none = runs_of-begins e e b.run.config b.run.journal before
      ∙ ap (λ own. runs_of e before ++ (if own then run_with b.run.config b.run.journal [] ∷ [] else [])) (same_own e)
      ∙ ap (λ rs. rs ++ run_with b.run.config b.run.journal [] ∷ []) same
      ∙ ap (λ is. map run_begun past ++ run_with b.run.config b.run.journal is ∷ []) (sym none)
      ∙ sym (map-append run_begun past (b ∷ []))

  one_input : (past : List Begun) (b : Begun) (input : KeepingInput) →
      runs_of e before ≡ map run_begun (past ++ b ∷ []) →
      runs_of e (before ++ comes_in e input ∷ []) ≡
      map run_begun (past ++ record b { run = with_input input b.run } ∷ [])
  one_input past b input same = runs_of-input e e input before (same_own e) ∙ ap (with_last input) same
      ∙ input_last input past b

  -- the event is one of this end
  by_process : (now : Option Process) (w : World) (event : Event) →
      runs_of e before ≡ runs_in (record w { now = now }) →
      runs_of e (before ++ happening_of e now event) ≡ runs_in (happens (record w { now = now }) event)
  by_process None w (process_begins limit config octets) same =
      one_begun w.past (opened_by limit config octets w.gone).begun (same ∙ ap (map run_begun) (append-nil w.past)) refl
  by_process None w (opens config) same = nothing_new (w.past ++ []) same
  by_process None w (orders rs anew) same = nothing_new (w.past ++ []) same
  by_process None w (answers ok) same = nothing_new (w.past ++ []) same
  by_process None w (takes input) same = nothing_new (w.past ++ []) same
  by_process None w (reports r) same = nothing_new (w.past ++ []) same
  by_process None w (lets_go name) same = nothing_new (w.past ++ []) same
  by_process None w (ends n) same = nothing_new (w.past ++ []) same
  by_process (Some p) w (process_begins limit config octets) same = nothing_new (w.past ++ p.begun ∷ []) same
  by_process (Some p) w (opens config) same = one_begun (w.past ++ p.begun ∷ [])
      (beginning config (for_endpoint p.journal) w.gone) same refl
  by_process (Some p) w (orders rs anew) same = nothing_new (w.past ++ p.begun ∷ []) same
  by_process (Some p) w (answers ok) same = nothing_new (w.past ++ p.begun ∷ []) same
  by_process (Some p) w (takes input) same = one_input w.past p.begun (endpoint_input input) same
  by_process (Some p) w (reports r) same = one_input w.past p.begun (now_durable r) same
  by_process (Some p) w (lets_go name) same = nothing_new (w.past ++ p.begun ∷ []) same
  by_process (Some p) w (ends n) same =
      nothing_new (w.past ++ p.begun ∷ []) same ∙ ap (map run_begun) (sym (append-nil (w.past ++ p.begun ∷ [])))

  -- the event is one of the other end
  other_begun : (f : End) → same_end e f ≡ false → (config : EndConfig) (journal : List ℕ) →
      runs_of e (before ++ begins f config journal ∷ []) ≡ runs_of e before
  other_begun f other config journal = runs_of-begins e f config journal before
      ∙ ap (λ own. runs_of e before ++ (if own then run_with config journal [] ∷ [] else [])) other
      ∙ append-nil (runs_of e before)

  at_other : (f : End) → same_end e f ≡ false → (now : Option Process) (event : Event) →
      runs_of e (before ++ happening_of f now event) ≡ runs_of e before
  at_other f other None (process_begins limit config octets) = other_begun f other config _
  at_other f other (Some p) (opens config) = other_begun f other config _
  at_other f other (Some p) (takes input) = runs_of-other_input e f (endpoint_input input) before other
  at_other f other (Some p) (reports r) = runs_of-other_input e f (now_durable r) before other
  at_other f other now event = ap (runs_of e) (append-nil before)

-- ---- after all events

runs_from : (e : End) (events : List EventAt) (worlds : End → World) (before : Events) →
    runs_of e before ≡ runs_in (worlds e) →
    runs_of e (before ++ happenings_from worlds events) ≡ runs_in (after_all (worlds e) (events_of e events))
runs_from e [] worlds before same = nothing_new e before (all_begun (worlds e)) same
runs_from e (x ∷ more) worlds before same =
    ap (runs_of e) (sym (append_assoc before now rest))
    ∙ by_end (same_end e x.place) refl (runs_from e more later (before ++ now))
  where
    now : Events
    now = happening_of x.place (worlds x.place).now x.event

    later : End → World
    later = worlds_after worlds x

    rest : Events
    rest = happenings_from later more

    own : same_end e x.place ≡ true → runs_of e (before ++ now) ≡ runs_in (happens (worlds e) x.event)
    own is = subst (λ f. runs_of e (before ++ happening_of f (worlds f).now x.event) ≡
        runs_in (happens (worlds e) x.event)) (sym (same_is e x.place is))
        (by_process e before (worlds e).now (worlds e) x.event same)

    by_end : (b : Bool) → same_end e x.place ≡ b → (runs_of e (before ++ now) ≡ runs_in (later e) →
        runs_of e ((before ++ now) ++ rest) ≡ runs_in (after_all (later e) (events_of e more))) →
        runs_of e ((before ++ now) ++ rest) ≡
        runs_in (after_all (worlds e) (if b then x.event ∷ events_of e more else events_of e more))
    by_end true is go =
        let after : later e ≡ happens (worlds e) x.event =
        ap (λ own'. if own' then happens (worlds e) x.event else worlds e) is in
        go (own is ∙ ap runs_in (sym after)) ∙ ap (λ (w : World). runs_in (after_all w (events_of e more))) after
    by_end false is go =
        let after : later e ≡ worlds e =
        ap (λ own'. if own' then happens (worlds e) x.event else worlds e) is in
        go (at_other e before x.place is (worlds x.place).now x.event ∙ same ∙ ap runs_in (sym after))
        ∙ ap (λ (w : World). runs_in (after_all w (events_of e more))) after

pub has_the_runs : (two : TwoJournals) (e : End) → HasTheRuns two e
has_the_runs two e = runs_from e two.events (λ f. created (two.form f) (two.salt f)) [] refl

with_option : (ahead : ℕ → Bool) (bs : List Begun) →
    runs_with ahead (map run_begun bs) ≡ map run_of (begun_with ahead bs)
with_option ahead [] = refl
with_option ahead (b ∷ bs) = ap (λ rs. record { ahead = ahead 0; run = b.run } ∷ rs)
    (with_option (λ n. ahead (suc n)) bs)

-- ---- order, and each frame at most once

all_of_map : {X Y : Type 0} (f : X → Y) (P : Y → Type 0) (xs : List X) → All P (map f xs) → All (λ x. P (f x)) xs
all_of_map f P [] all = All-nil (λ x. P (f x))
all_of_map f P (x ∷ xs) all = All-cons (λ y. P (f y)) x xs (All-head P (f x) (map f xs) all)
    (all_of_map f P xs (All-tail P (f x) (map f xs) all))

module _ (keeps : Keeps) (ahead : End → ℕ → Bool) (two : TwoJournals) where
  abbrev over : End → List BegunWith
  over f = begun_over (ahead f) (journal_at two f)

  same_runs : (f : End) → runs_at ahead f (happenings two) ≡ map run_of (over f)
  same_runs f = ap (runs_with (ahead f)) (has_the_runs two f)
      ∙ with_option (ahead f) (all_begun (world_of (journal_at two f)))

  pub comes_in_order_on_disk : EndpointLaws → RenewingLaws → GivingUp → Grammar → ComesInOrderOnDisk ahead two
  comes_in_order_on_disk laws renews giving grammar e bytes sci an can sounds each sends delivers =
      comes_in_order_if_kept_renewing laws renews giving grammar ahead (happenings two) e bytes sci an sounds each
      (subst (AllPairs (KeepsSentWith bytes)) (sym (same_runs (other_end e)))
      (pairs-map run_of (KeepsSentWith bytes) (over (other_end e)) (λ i j d less within.
      let kept = keeps_used_on_disk keeps (ahead (other_end e)) (journal_at two (other_end e)) (can (other_end e)) i j d
      less within in
      kept.sent bytes (sends i j d less within))))
      (subst (AllPairs (KeepsDeliveredWith bytes sci an)) (sym (same_runs e))
      (pairs-map run_of (KeepsDeliveredWith bytes sci an) (over e) (λ i j d less within.
      let kept = keeps_used_on_disk keeps (ahead e) (journal_at two e) (can e) i j d less within in
      kept.delivered bytes sci an (delivers i j d less within) (accepts i d (omega (arith, less, within))))))
    where
      accepts : All (λ b. AcceptsAll bytes sci an (run_of b)) (over e)
      accepts = all_of_map run_of (AcceptsAll bytes sci an) (over e)
          (subst (All (AcceptsAll bytes sci an)) (same_runs e)
          (all_accepted laws renews giving grammar ahead e bytes sci an (happenings two) sounds each))

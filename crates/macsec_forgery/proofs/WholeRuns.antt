-- All tries of a run.
use Rattle.{
  std.proofs.{
    Common.{◌≡◌, ℕ, zero, suc, ◌+◌, ◌*◌, ◌^◌, ◌<◌, ◌≤◌, List, [], ◌∷◌, length, get_or, take, filter, slice_get},
    Common.{true, Option, Some, None, All, Contains, refl, sym, ap, ◌∙◌, arith},
    lemmas.{
      List.Elements.{All-append, All-cons, All-filter, All-from_recursion, All-nil, All-weaker, Contains-append_left},
      List.Elements.{Contains-append_right, filter_passes, recursion_from_All},
      Option.slice_get-get_or,
    },
  },
  std.specs.{Cmp.Lexicographic.same_text, List.{AllByRecursion, Any}},
  macsec_gcm.specs.Octets.same_octets,
  macsec_suite.specs.CipherUses.CipherUse,
  macsec_commands.specs.declared.{config.EndConfig.EndConfig, event.{End.End, Event.{Event, TheVariants.Deliver}}},
  macsec_hash_keys.{
    proofs.{
      Forgeries.{AnyOf, any_from, count_by_tries, few_keys_have_forgeries, keys_from},
      Roots.{AreBlocks, Differ, differ_from_pairs},
      UnderKey.{contained_still, same_octets-refl, under_key},
    },
    specs.{Forgeries.{HasForgery, IsWithin, under}, Tags.mask_of},
  },
  macsec_link.{
    proofs.{
      Deliveries.Grammar,
      Forged.{own_key, seals_within, sound_trace},
      SentStands.stays_on_link,
      Within.{carried_within, on_the_link},
    },
    specs.{
      Beginnings.AreSound,
      Forgery.trace_before,
      Step.{world_after, world_at, world_step},
      Trace.{Trace, new_trace, trace_after, trace_step},
      World.{WorldState, end_of, frame_at, new_world},
    },
  },
  macsec_secrecy.proofs.Uses.Promises,
  macsec_forgery.{
    proofs.Opened.{looked_at, opened_is_tried, tried_of_frame},
    specs.WholeRuns.{FewKeysForgeInWholeRun, OwnKeyForgesInRun, Try, tries_by, tries_from, tries_under},
    specs.WholeRuns.{TriesHaveAll, try_of, use_tried},
  },
}

-- ---- what holds of each try of each event holds of all tries

tries_have : (P : Try → Type 0) (t : Trace) (events : List Event)
    → ((k : ℕ) (event : Event) → slice_get events k ≡ Some event
    → All P (tries_by (trace_after t (take k events)) event))
    → All P (tries_from t events)
tries_have P t [] each = All-nil P
tries_have P t (event ∷ events) each =
    All-append P (tries_by t event) (tries_from (trace_step t event) events) (each 0 event refl)
    (tries_have P (trace_step t event) events (λ k e at. each (suc k) e at))

-- and a try is among all tries
try_is_there : (t : Trace) (events : List Event) (k n : ℕ) (e : End) (u : CipherUse)
    → slice_get events k ≡ Some (Deliver e n)
    → use_tried (end_of (trace_after t (take k events)).world e).state
    (frame_at (trace_after t (take k events)).world n) ≡ Some u
    → Contains (tries_from t events) (record { tried = u; seals = (trace_after t (take k events)).seals })
try_is_there t [] k n e u at tries = absurd (cc)
try_is_there t (event ∷ events) zero n e u at tries =
    let same : event ≡ Deliver e n = cc in
    let here : tries_by t event ≡ record { tried = u; seals = t.seals } ∷ [] =
    ap (tries_by t) same ∙ ap (λ o. try_of o t.seals) tries in
    Contains-append_left (tries_by t event) _ _ (rw here (0, omega arith, refl))
try_is_there t (event ∷ events) (suc k) n e u at tries =
    Contains-append_right (tries_by t event) _ _ (try_is_there (trace_step t event) events k n e u at tries)

-- ---- frames of an earlier moment

earlier_frames : (P : List ℕ → Type 0) (w : WorldState) (events : List Event) (k : ℕ)
    → All P (world_after w events).frames
    → All P (world_after w (take k events)).frames
earlier_frames P w events zero all = λ n default lt.
    on_the_link P _ n (get_or w.frames n default) all
    (stays_on_link w events n _ (slice_get-get_or w.frames n default lt))
earlier_frames P w [] (suc k) all = all
earlier_frames P w (event ∷ events) (suc k) all = earlier_frames P (world_step w event).1 events k all

-- ---- few keys for each try

-- a try of few blocks, and so is what was sealed before it
record IsTryWithin (n : ℕ) (x : Try) : Type 0 where
  tried : IsWithin n x.tried
  seals : All (IsWithin n) x.seals

try_within : (n : ℕ) (o : Option CipherUse) (seals : List CipherUse) → ((u : CipherUse) → o ≡ Some u → IsWithin n u)
    → All (IsWithin n) seals → All (IsTryWithin n) (try_of o seals)
try_within n None seals small sealed = All-nil (IsTryWithin n)
try_within n (Some u) seals small sealed =
    All-cons (IsTryWithin n) (record { tried = u; seals = seals }) [] (record { tried = small u refl; seals = sealed })
    (All-nil (IsTryWithin n))

event_within : Promises → Grammar → (a b : EndConfig) (events : List Event) → AreSound a b events → (m : ℕ)
    → All (λ frame. length frame ≤ 16 * m) (world_after (new_world a b) events).frames → (k : ℕ) (event : Event)
    → All (IsTryWithin (m + 1)) (tries_by (trace_before a b events k) event)
event_within promises grammar a b events sound m fits k (Deliver e n) =
    let t = trace_before a b events k in
    let here : All (λ frame. length frame ≤ 16 * m) (world_at a b events k).frames =
    earlier_frames (λ frame. length frame ≤ 16 * m) (new_world a b) events k fits in
    let now = sound_trace a b events m k sound here in
    let s = (end_of t.world e).state in
    try_within (m + 1) _ t.seals
    (λ u is. carried_within grammar t.world m n u now.0 now.1 (tried_of_frame s (frame_at t.world n) u is))
    (seals_within a b events sound m k ((promises a b events sound).seals k) here)
event_within promises grammar a b events sound m fits k event = All-nil (IsTryWithin (m + 1))

all_within : Promises → Grammar → (a b : EndConfig) (events : List Event) → AreSound a b events → (m : ℕ)
    → All (λ frame. length frame ≤ 16 * m) (world_after (new_world a b) events).frames
    → All (IsTryWithin (m + 1)) (tries_from (new_trace a b) events)
all_within promises grammar a b events sound m fits =
    tries_have (IsTryWithin (m + 1)) (new_trace a b) events
    (λ k event at. event_within promises grammar a b events sound m fits k event)

-- under this hash key the try is a forgery
abbrev IsForgeryFor : List ℕ → Try → ℕ → Type 0
IsForgeryFor key x h = HasForgery (mask_of key) (under key x.seals) (x.tried ∷ []) h

few_for_try : (n : ℕ) (key : List ℕ) (x : Try) → IsTryWithin n x → x.tried.key ≡ key
    → (hs : List ℕ) → AreBlocks hs → Differ hs → AllByRecursion (IsForgeryFor key x) hs → length hs ≤ n
few_for_try n key x within own hs blocks apart each =
    let few = few_keys_have_forgeries n key (mask_of key) (under key x.seals) (x.tried ∷ []) hs (under_key key x.seals)
    (All-filter (λ s. same_octets s.key key) (IsWithin n) x.seals within.seals)
    (All-cons (λ s. s.key ≡ key) x.tried [] own (All-nil (λ s. s.key ≡ key)))
    (All-cons (IsWithin n) x.tried [] within.tried (All-nil (IsWithin n)))
    (keys_from hs blocks apart) (All-from_recursion (IsForgeryFor key x) hs each) in
    omega (arith, few)

few_for_each : (n : ℕ) (key : List ℕ) (xs : List Try) → All (IsTryWithin n) xs → All (λ x. x.tried.key ≡ key) xs
    → AllByRecursion (λ x. (hs : List ℕ) → AreBlocks hs → Differ hs → AllByRecursion (IsForgeryFor key x) hs
    → length hs ≤ n) xs
few_for_each n key xs within own =
    recursion_from_All _ xs (λ k default lt. few_for_try n key (get_or xs k default) (within k default lt)
    (own k default lt))

own_keys : (key : List ℕ) (xs : List Try) → All (λ x. x.tried.key ≡ key) (filter (λ x. same_octets x.tried.key key) xs)
own_keys key xs =
    All-weaker (λ x. same_octets x.tried.key key ≡ true) (λ x. x.tried.key ≡ key)
    (λ x e. same_text x.tried.key key (sym e)) _
    (filter_passes (λ x. same_octets x.tried.key key) xs)

forged_by_any : (key : List ℕ) (xs : List Try) (hs : List ℕ) → All (λ h. Any (λ x. IsForgeryFor key x h) xs) hs
    → AllByRecursion (λ h. AnyOf (λ x. IsForgeryFor key x h) xs) hs
forged_by_any key xs hs each =
    recursion_from_All _ hs (λ k default lt.
    let it = each k default lt in
    any_from (λ x. IsForgeryFor key x (get_or hs k default)) xs it.0 it.1 it.2 it.3 it.4)

pub few_keys_forge_in_whole_run : Promises → Grammar → FewKeysForgeInWholeRun
few_keys_forge_in_whole_run promises grammar a b events sound m key hs fits keys each =
    let all = tries_from (new_trace a b) events in
    let within = All-filter (λ x. same_octets x.tried.key key) (IsTryWithin (m + 1)) all
    (all_within promises grammar a b events sound m fits) in
    count_by_tries (m + 1) (IsForgeryFor key) (tries_under key a b events)
    (few_for_each (m + 1) key (tries_under key a b events) within (own_keys key all))
    hs (recursion_from_All (λ h. h < 2 ^ 128) hs keys.blocks) (differ_from_pairs hs keys.distinct)
    (forged_by_any key (tries_under key a b events) hs each)

-- ---- each try, and the own hash key

there_under : (a b : EndConfig) (events : List Event) (moment n : ℕ) (e : End) (u : CipherUse)
    → slice_get events moment ≡ Some (Deliver e n)
    → use_tried (end_of (trace_before a b events moment).world e).state
    (frame_at (trace_before a b events moment).world n) ≡ Some u
    → Contains (tries_under u.key a b events) (record { tried = u; seals = (trace_before a b events moment).seals })
there_under a b events moment n e u at tries =
    let x : Try = record { tried = u; seals = (trace_before a b events moment).seals } in
    let there = try_is_there (new_trace a b) events moment n e u at tries in
    contained_still (λ y. same_octets y.tried.key u.key) (tries_from (new_trace a b) events) x there.0 there.1 there.2
    (same_octets-refl u.key)

pub tries_have_all : TriesHaveAll
tries_have_all a b events moment e n at step =
    let t = trace_before a b events moment in
    let it = looked_at (end_of t.world e).state (frame_at t.world n) step in
    record { tried = it.0; is = it.1; there = there_under a b events moment n e it.0 at it.1 }

pub own_key_forges_in_run : OwnKeyForgesInRun
own_key_forges_in_run a b events moment it =
    let t = trace_before a b events moment in
    let u = it.forged in
    let s = (end_of t.world it.end).state in
    let x : Try = record { tried = u; seals = t.seals } in
    let there = there_under a b events moment it.frame it.end u it.event
    (opened_is_tried s (frame_at t.world it.frame) u it.opened) in
    (there.0, x, there.1, there.2, own_key a b events moment it)

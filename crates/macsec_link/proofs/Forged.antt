-- In each run no tag is forged, or there is a first forged one, and the hash key of its key is one of few.
use Rattle.{
  std.proofs.lemmas.List.Elements.{All-contains_itself, All-filter},
  std.specs.List.Any,
  macsec_gcm.specs.{Gcm.hash_subkey, Octets.same_octets},
  macsec_gcm.proofs.Opening.length-tag,
  macsec_hash_keys.{
    proofs.{
      Counting.contained_or_not,
      Forgeries.{every_key_is_possible, few_keys_have_forgeries, forgery_is_counted},
      Tags.{length-tag_with, opens_if_tag_is},
      UnderKey.under_key,
    },
    specs.{Forgeries.{HasForgery, IsPossible, IsWithin, Opens, under}, Polynomials.AreKeys, Tags.mask_of},
  },
  macsec_link.proofs.{
    Deliveries.Grammar,
    EndpointLaws.EndpointLaws,
    GenuineRuns.{repeats_no_iv, seals_each_frame},
    Moments.{sound_up_to, world_of_trace},
    Names.{◌+◌, ◌<◌, ◌∙◌, ◌∷◌, ◌≡◌, ◌≤◌, ◌⊎◌, [], ℕ, All, All-cons, All-contains, All-nil, All-weaker, AllPairs},
    Names.AreOctets,
    Names.{AreSound, Bool, CipherUse, Contains, Deliver, End, EndConfig, Event, IfSome, IsSound, IsUseFor, List, None},
    Names.{Option, SealsEachFrame, Sent, Some, Trace, ap, arith, end_of, filter, frame_at, inl, inr, length, new_trace},
    Names.{new_world, refl, slice_get, subst, suc, sym, take, the_key, trace_after, trace_of, trace_step, world_after},
    Names.world_at,
    Opened.{opened_of_frame, opened_opens},
    SealedUses.{each_seal, ivs_apart, seals_open},
    Within.{carried_within, on_the_link, parts_within},
  },
  macsec_link.specs.{
    Forgery.{GenuineOrForged, HasThisForgery, IsForgedAt, NeedsFewKeys, trace_before},
    Genuine.{IsGenuine, IsGenuineAt, use_opened},
    UniqueIvs.{HasOtherIv, RepeatsNoIv, parts_made, state_at},
  },
}
use Rattle.std.proofs.Common.{◌*◌}

-- ---- one event

-- a use that is opened by an event, and was not sealed before
record IsNew (t : Trace) (event : Event) : Type 0 where
  end : End
  frame : ℕ
  is_delivery : event ≡ Deliver end frame
  forged : CipherUse
  opened : use_opened (end_of t.world end).state (frame_at t.world frame) ≡ Some forged
  not_sealed : Contains t.seals forged → ⊥

genuine_or_new : (t : Trace) (event : Event) → IsGenuineAt t event ⊎ IsNew t event
genuine_or_new t (Deliver e n) = by_use (use_opened (end_of t.world e).state (frame_at t.world n)) refl
  where
    by_use : (o : Option CipherUse) → use_opened (end_of t.world e).state (frame_at t.world n) ≡ o
        → IfSome o (Contains t.seals) ⊎ IsNew t (Deliver e n)
    by_use None opened = inl tt
    by_use (Some u) opened = elim (contained_or_not t.seals u) [
      | inl there ↦ inl there
      | inr none ↦ inr (record {
        end = e;
        frame = n;
        is_delivery = refl;
        forged = u;
        opened = opened;
        not_sealed = none;
      })
    ]
genuine_or_new t other = inl tt

-- ---- a run

record IsNewIn (t : Trace) (events : List Event) : Type 0 where
  moment : ℕ
  within : moment < length events
  end : End
  frame : ℕ
  event : slice_get events moment ≡ Some (Deliver end frame)
  genuine_before : IsGenuine t (take moment events)
  forged : CipherUse
  opened : use_opened (end_of (trace_after t (take moment events)).world end).state
      (frame_at (trace_after t (take moment events)).world frame) ≡ Some forged
  not_sealed : Contains (trace_after t (take moment events)).seals forged → ⊥

genuine_or_new_in : (t : Trace) (events : List Event) → IsGenuine t events ⊎ IsNewIn t events
genuine_or_new_in t [] = inl tt
genuine_or_new_in t (event ∷ events) = elim (genuine_or_new t event) [
  | inr it ↦ inr (record {
    moment = 0;
    within = omega arith;
    end = it.end;
    frame = it.frame;
    event = ap (λ e. Some e) it.is_delivery;
    genuine_before = tt;
    forged = it.forged;
    opened = it.opened;
    not_sealed = it.not_sealed;
  })
  | inl genuine ↦ elim (genuine_or_new_in (trace_step t event) events) [
    | inl later ↦ inl (genuine, later)
    | inr it ↦ inr (record {
      moment = suc it.moment;
      within = (let lt = it.within in omega arith);
      end = it.end;
      frame = it.frame;
      event = it.event;
      genuine_before = (genuine, it.genuine_before);
      forged = it.forged;
      opened = it.opened;
      not_sealed = it.not_sealed;
    })
  ]
]

-- ---- the hash key

-- what is left by a filter was there
contained_before : (test : CipherUse → Bool) (uses : List CipherUse) → All (Contains uses) (filter test uses)
contained_before test uses = All-filter test (Contains uses) uses (All-contains_itself uses)

pub one_forged : (seals : List CipherUse) (u : CipherUse) → Opens u → (Contains seals u → ⊥)
    → Any (λ v. Opens v × (Contains (under u.key seals) v → ⊥)) (u ∷ [])
one_forged seals u opens none = (
  0,
  u,
  omega arith,
  refl,
  (
    opens,
    λ there. none
        (All-contains (Contains seals) (under u.key seals) u
        (contained_before (λ s. same_octets s.key u.key) seals) there),
  ),
)

pub counted : (seals : List CipherUse) (u : CipherUse) → All Opens seals → Opens u → (Contains seals u → ⊥)
    → HasForgery (mask_of u.key) (under u.key seals) (u ∷ []) (hash_subkey u.key)
counted seals u all_open opens none =
    forgery_is_counted u.key (under u.key seals) (u ∷ []) (under_key u.key seals)
    (All-filter (λ s. same_octets s.key u.key) Opens seals all_open)
    (All-cons (λ s. s.key ≡ u.key) u [] refl (All-nil (λ s. s.key ≡ u.key)))
    (one_forged seals u opens none)

-- the hash key that AES gives for the key of the forged use is one of those that have this forgery
pub own_key : (a b : EndConfig) (events : List Event) (moment : ℕ) (it : IsForgedAt a b events moment)
    → HasThisForgery a b events moment it (hash_subkey it.forged.key)
own_key a b events moment it =
    let t = trace_before a b events moment in
    counted t.seals it.forged (seals_open a b (take moment events))
    (opened_opens (end_of t.world it.end).state (frame_at t.world it.frame) it.forged it.opened) it.not_sealed

-- ---- how many they are

sealed_within : (a b : EndConfig) (events : List Event) (m moment : ℕ) (x : Sent)
    → IsSound (world_after (new_world a b) events)
    → All (λ frame. length frame ≤ 16 * m) (world_after (new_world a b) events).frames → IsUseFor a b events moment x
    → IsWithin (m + 1) x.seal
sealed_within a b events m moment x sound fits it =
    let frames = (world_after (new_world a b) events).frames in
    let s = state_at a b events moment x.at in
    let key = the_key s.keys it.row.key in
    let p = parts_made s it.row x.frame in
    subst (IsWithin (m + 1)) (sym it.seal) (parts_within m key _ p
    (on_the_link AreOctets frames _ _ sound.octets it.on_link)
    (on_the_link (λ frame. length frame ≤ 9248) frames _ _ sound.frames it.on_link)
    (on_the_link (λ frame. length frame ≤ 16 * m) frames _ _ fits it.on_link) (length-tag _ _ _ _))

-- the messages that were sealed before a moment
pub seals_within : (a b : EndConfig) (events : List Event) → AreSound a b events → (m moment : ℕ)
    → SealsEachFrame a b (take moment events)
    → All (λ frame. length frame ≤ 16 * m) (world_at a b events moment).frames
    → All (IsWithin (m + 1)) (trace_before a b events moment).seals
seals_within a b events sound m moment sealed fits =
    each_seal a b (take moment events) (IsWithin (m + 1)) sealed
    (λ at x it. sealed_within a b (take moment events) m at x (sound moment) fits it)

-- the world of a trace is sound, and its frames are as short
pub sound_trace : (a b : EndConfig) (events : List Event) (m moment : ℕ) → AreSound a b events
    → All (λ frame. length frame ≤ 16 * m) (world_at a b events moment).frames
    → IsSound (trace_before a b events moment).world
    × All (λ frame. length frame ≤ 16 * m) (trace_before a b events moment).world.frames
sound_trace a b events m moment sound fits =
    let same = sym (world_of_trace (new_trace a b) (take moment events)) in (
      subst IsSound same (sound moment),
      subst (λ w. All (λ frame. length frame ≤ 16 * m) w.frames) same fits,
    )

-- the message that was forged
pub forged_within : Grammar → (a b : EndConfig) (events : List Event) → AreSound a b events
    → (m moment : ℕ) (it : IsForgedAt a b events moment)
    → All (λ frame. length frame ≤ 16 * m) (world_at a b events moment).frames → IsWithin (m + 1) it.forged
forged_within grammar a b events sound m moment it fits =
    let w = (trace_before a b events moment).world in
    let now = sound_trace a b events m moment sound fits in
    carried_within grammar w m it.frame it.forged now.0 now.1
    (opened_of_frame (end_of w it.end).state (frame_at w it.frame) it.forged it.opened)

few_keys : Grammar → (a b : EndConfig) (events : List Event) → AreSound a b events → (moment : ℕ)
    → SealsEachFrame a b (take moment events) → (it : IsForgedAt a b events moment) (m : ℕ) (hs : List ℕ)
    → All (λ frame. length frame ≤ 16 * m) (world_at a b events moment).frames
    → AreKeys hs → All (HasThisForgery a b events moment it) hs → length hs ≤ m + 1
few_keys grammar a b events sound moment sealed it m hs fits keys each =
    let u = it.forged in
    let seals : List CipherUse = (trace_before a b events moment).seals in
    let few = few_keys_have_forgeries (m + 1) u.key (mask_of u.key) (under u.key seals) (u ∷ []) hs
    (under_key u.key seals)
    (All-filter (λ s. same_octets s.key u.key) (IsWithin (m + 1)) seals
    (seals_within a b events sound m moment sealed fits))
    (All-cons (λ s. s.key ≡ u.key) u [] refl (All-nil (λ s. s.key ≡ u.key)))
    (All-cons (IsWithin (m + 1)) u [] (forged_within grammar a b events sound m moment it fits)
    (All-nil (IsWithin (m + 1))))
    keys each in
    omega (arith, few)

-- ---- every hash key is possible

pub tag_long : (u : CipherUse) → Opens u → length u.tag ≡ 16
tag_long u opens =
    sym (ap length ((opens_if_tag_is u.key u.iv u.aad u.ciphertext u.tag).0 opens))
    ∙ length-tag_with (hash_subkey u.key) (mask_of u.key u.iv) u.aad u.ciphertext

-- any uses of the cipher that open, under one key
pub possible : (key : List ℕ) (given : List ℕ → List ℕ) (h : ℕ) (seals : List CipherUse) → AllPairs HasOtherIv seals
    → All Opens seals
    → IsPossible given (under key seals) h
possible key given h seals apart opens =
    every_key_is_possible given (under key seals) h (ivs_apart key seals apart)
    (All-weaker Opens (λ u. length u.tag ≡ 16) tag_long (under key seals)
    (All-filter (λ u. same_octets u.key key) Opens seals opens))

-- ---- all of it

needs_few_keys : EndpointLaws → Grammar → (a b : EndConfig) (events : List Event) → AreSound a b events → (moment : ℕ)
    → (it : IsForgedAt a b events moment) → NeedsFewKeys a b events moment it
needs_few_keys laws grammar a b events sound moment it =
    let before = take moment events in
    let then = sound_up_to a b events sound moment in
    let few = few_keys grammar a b events sound moment (seals_each_frame laws grammar a b before then) it in
    record {
      own = own_key a b events moment it;
      few = few;
      at_most = λ hs keys each. few 578 hs (sound moment).frames keys each;
      of_all = λ scis agree sscis h.
          possible it.forged.key (mask_of it.forged.key) h (trace_of a b before).seals
          (repeats_no_iv laws grammar a b before then scis agree sscis) (seals_open a b before);
    }

is_forged : (a b : EndConfig) (events : List Event) (it : IsNewIn (new_trace a b) events)
    → IsForgedAt a b events it.moment
is_forged a b events it = record {
  end = it.end;
  frame = it.frame;
  event = it.event;
  genuine_before = it.genuine_before;
  forged = it.forged;
  opened = it.opened;
  not_sealed = it.not_sealed;
}

pub genuine_or_forged : EndpointLaws → Grammar → (a b : EndConfig) (events : List Event) → AreSound a b events
    → GenuineOrForged a b events
genuine_or_forged laws grammar a b events sound = elim (genuine_or_new_in (new_trace a b) events) [
  | inl genuine ↦ inl genuine
  | inr it ↦
      let at = is_forged a b events it in
      inr (it.moment, it.within, at, needs_few_keys laws grammar a b events sound it.moment at)
]

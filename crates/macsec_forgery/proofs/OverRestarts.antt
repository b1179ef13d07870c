-- In every history no tag is forged, or there is a first forged one.
use Rattle.{
  std.proofs.{
    Common.{◌≡◌, ◌⊎◌, inl, inr, ℕ, List, [], ◌∷◌, ◌++◌, Bool, true, Option, Some, None, IfSome, Contains, map, refl},
    Common.{arith, append_assoc, append-nil, subst},
    lemmas.List.{map-append, Elements.{All-cons, All-filter, All-nil}},
  },
  macsec_gcm.specs.Octets.same_octets,
  macsec_suite.specs.CipherUses.CipherUse,
  macsec_commands.specs.declared.event.End.{End, TheVariants.{A, B}},
  macsec_secy.specs.Step.link_frame,
  macsec_reserve.specs.Keeping.{KeepingInput, endpoint_input},
  macsec_hash_keys.{
    proofs.{Counting.contained_or_not, Forgeries.few_keys_have_forgeries, UnderKey.under_key},
    specs.{Forgeries.{IsWithin, under}, Tags.mask_of},
  },
  macsec_link.{proofs.{Forged.counted, Opened.opened_opens}, specs.Genuine.use_opened},
  macsec_restarts.specs.{
    Happenings.{AtEach, Happening, begins, comes_in, same_end},
    Kept.{IsGenuineFrom, RunWith, last_of, runs_at},
    RenewingOrder.{AskedOfLast, ComesFromOtherRenewing, ComesInOrderIfReadRenewing, IsFairAt, IsOriginAt},
    RenewingOrder.closing_renewing,
    RenewingRuns.sent_by_all,
    Used.seal_of,
  },
  macsec_forgery.proofs.Sealed.both_open,
  macsec_forgery.specs.{
    Restarts.{FewKeysForgeOverRestarts, ForgeryIsCountedOverRestarts, GenuineOrForgedOverRestarts, IsFairOrForgedAt},
    Restarts.{IsForgedBy, IsForgedIn, IsGenuineInput, IsOriginOrForgedAt, OrderOrForgedOverRestarts},
    Restarts.{OriginOrForgedOverRestarts, sealed_so_far},
  },
}

-- ---- one happening

module _ (ahead : End → ℕ → Bool) (before : List Happening) where
  link_frame_or_forged : (e : End) (frame : List ℕ)
      → IsGenuineInput ahead before (comes_in e (endpoint_input (link_frame frame)))
      ⊎ IsForgedBy ahead before (comes_in e (endpoint_input (link_frame frame)))
  link_frame_or_forged e frame = by_run (last_of (runs_at ahead e before)) refl
    where
      here : Happening
      here = comes_in e (endpoint_input (link_frame frame))

      sealed : List CipherUse
      sealed = map seal_of (sent_by_all (runs_at ahead A before) ++ sent_by_all (runs_at ahead B before))

      by_use : (r : RunWith) → last_of (runs_at ahead e before) ≡ Some r → (o : Option CipherUse)
          → use_opened (closing_renewing r).k.secy frame ≡ o
          → IfSome o (Contains sealed) ⊎ IsForgedBy ahead before here
      by_use r in_run None opened = inl tt
      by_use r in_run (Some u) opened = elim (contained_or_not sealed u) [
        | inl there ↦ inl there
        | inr none ↦ inr (record {
          end = e;
          run = r;
          frame = frame;
          is_link_frame = refl;
          in_run = in_run;
          forged = u;
          opened = opened;
          not_sealed = subst (λ seals. Contains seals u → ⊥)
              (map-append seal_of (sent_by_all (runs_at ahead A before)) (sent_by_all (runs_at ahead B before))) none;
        })
      ]

      by_run : (o : Option RunWith) → last_of (runs_at ahead e before) ≡ o
          → IfSome o (λ r. IfSome (use_opened (closing_renewing r).k.secy frame) (Contains sealed))
          ⊎ IsForgedBy ahead before here
      by_run None in_run = inl tt
      by_run (Some r) in_run = by_use r in_run (use_opened (closing_renewing r).k.secy frame) refl

  no_frame : (e : End) (input : KeepingInput)
      → ((r : RunWith) → IsGenuineFrom (sent_by_all (runs_at ahead A before) ++ sent_by_all (runs_at ahead B before))
      (closing_renewing r) input)
      → IsGenuineInput ahead before (comes_in e input)
  no_frame e input none = by_run (last_of (runs_at ahead e before))
    where
      by_run : (o : Option RunWith)
          → IfSome o (λ r. IsGenuineFrom
          (sent_by_all (runs_at ahead A before) ++ sent_by_all (runs_at ahead B before)) (closing_renewing r) input)
      by_run None = tt
      by_run (Some r) = none r

  genuine_or_forged_at : (h : Happening) → IsGenuineInput ahead before h ⊎ IsForgedBy ahead before h
  genuine_or_forged_at (begins e config journal) = inl tt
  genuine_or_forged_at (comes_in e (endpoint_input (link_frame frame))) = link_frame_or_forged e frame
  genuine_or_forged_at (comes_in e other) = inl (no_frame e other (λ r. tt))

-- ---- a history

AtEach-append : (P : List Happening → Happening → Type 0) (before events : List Happening) (h : Happening)
    → AtEach P before events → P (before ++ events) h → AtEach P before (events ++ h ∷ [])
AtEach-append P before [] h all now = (rw append-nil at now, tt)
AtEach-append P before (e ∷ events) h all now =
    (all.0, AtEach-append P _ events h all.1 (rw (← append_assoc before (e ∷ []) events) at now))

from_here : (ahead : End → ℕ → Bool) (before events : List Happening) → AtEach (IsGenuineInput ahead) [] before
    → AtEach (IsGenuineInput ahead) before events ⊎ IsForgedIn ahead (before ++ events)
from_here ahead before [] genuine = inl tt
from_here ahead before (h ∷ events) genuine = elim (genuine_or_forged_at ahead before h) [
  | inr forged ↦ inr (record {
    before = before;
    now = h;
    later = events;
    in_order = refl;
    genuine_before =
        genuine;
    by = forged;
  })
  | inl now ↦ elim (from_here ahead _ events (AtEach-append (IsGenuineInput ahead) [] before h genuine now)) [
    | inl later ↦ inl (now, later)
    | inr forged ↦ inr (rw append_assoc at forged)
  ]
]

pub genuine_or_forged : GenuineOrForgedOverRestarts
genuine_or_forged ahead events = from_here ahead [] events tt

-- ---- origin and order

-- what is asked of the last run of an end may take from it that no tag is forged now
asked : (ahead : End → ℕ → Bool) (e : End) (P Q : List Happening → RunWith → KeepingInput → Type 0)
    → ((before : List Happening) (r : RunWith) (input : KeepingInput)
    → IsGenuineFrom (sent_by_all (runs_at ahead A before) ++ sent_by_all (runs_at ahead B before)) (closing_renewing r)
    input → P before r input → Q before r input)
    → (before events : List Happening) → AtEach (IsGenuineInput ahead) before events
    → AtEach (AskedOfLast ahead e P) before events → AtEach (AskedOfLast ahead e Q) before events
asked ahead e P Q both before [] genuine all = tt
asked ahead e P Q both before (h ∷ events) genuine all =
    (by_happening h genuine.0 all.0, asked ahead e P Q both _ events genuine.1 all.1)
  where
    by_run : (o : Option RunWith) (input : KeepingInput)
        → IfSome o (λ r. IsGenuineFrom (sent_by_all (runs_at ahead A before) ++ sent_by_all (runs_at ahead B before))
        (closing_renewing r) input)
        → IfSome o (λ r. P before r input) → IfSome o (λ r. Q before r input)
    by_run None input is it = tt
    by_run (Some r) input is it = both before r input is it

    by_ends : (e f : End) (input : KeepingInput) → IsGenuineInput ahead before (comes_in f input)
        → (same_end e f ≡ true → IfSome (last_of (runs_at ahead e before)) (λ r. P before r input))
        → same_end e f ≡ true → IfSome (last_of (runs_at ahead e before)) (λ r. Q before r input)
    by_ends A A input is it same = by_run (last_of (runs_at ahead A before)) input is (it same)
    by_ends B B input is it same = by_run (last_of (runs_at ahead B before)) input is (it same)
    by_ends A B input is it same = absurd (cc)
    by_ends B A input is it same = absurd (cc)

    by_happening : (h : Happening) → IsGenuineInput ahead before h → AskedOfLast ahead e P before h
        → AskedOfLast ahead e Q before h
    by_happening (begins f config journal) is it = tt
    by_happening (comes_in f input) is it = by_ends e f input is it

pub origin_or_forged : ((ahead : End → ℕ → Bool) (events : List Happening) → ComesFromOtherRenewing ahead events)
    → OriginOrForgedOverRestarts
origin_or_forged comes ahead events e sounds all = elim (genuine_or_forged ahead events) [
  | inr forged ↦ inl forged
  | inl genuine ↦ inr (comes ahead events e sounds
      (asked ahead e (IsOriginOrForgedAt ahead e) (IsOriginAt ahead e) (λ before r input is it d there. record {
        strict = (it d there).strict;
        from = record { octets = (it d there).octets; genuine = is; peers = (it d there).peers };
      }) [] events genuine all))
]

pub order_or_forged : ((ahead : End → ℕ → Bool) (events : List Happening) → ComesInOrderIfReadRenewing ahead events)
    → OrderOrForgedOverRestarts
order_or_forged comes ahead events e bytes sci an sounds all sent delivered =
    elim (genuine_or_forged ahead events) [
      | inr forged ↦ inl forged
      | inl genuine ↦ inr (comes ahead events e bytes sci an sounds
          (asked ahead e (IsFairOrForgedAt ahead e bytes sci an) (IsFairAt ahead e bytes sci an)
          (λ before r input is it d there. record {
            order = (it d there).order;
            from = record { octets = (it d there).octets; genuine = is; peers = (it d there).peers };
          }) [] events genuine all) sent delivered)
    ]

-- ---- counting

pub forgery_is_counted_over_restarts : ForgeryIsCountedOverRestarts
forgery_is_counted_over_restarts ahead before now it =
    counted (sealed_so_far ahead before) it.forged (both_open (runs_at ahead A before) (runs_at ahead B before))
    (opened_opens (closing_renewing it.run).k.secy it.frame it.forged it.opened) it.not_sealed

pub few_keys_forge : FewKeysForgeOverRestarts
few_keys_forge ahead n before now it hs within_seals within keys each =
    let u = it.forged in
    let seals = sealed_so_far ahead before in
    let few = few_keys_have_forgeries n u.key (mask_of u.key) (under u.key seals) (u ∷ []) hs (under_key u.key seals)
    (All-filter (λ s. same_octets s.key u.key) (IsWithin n) seals within_seals)
    (All-cons (λ s. s.key ≡ u.key) u [] refl (All-nil (λ s. s.key ≡ u.key)))
    (All-cons (IsWithin n) u [] within (All-nil (IsWithin n)))
    keys each in
    omega (arith, few)

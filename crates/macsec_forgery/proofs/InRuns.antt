-- The promises of a run up to the first forged tag, and the hash keys that it needs.
use Rattle.{
  std.proofs.{
    Common.{◌≡◌, ◌⊎◌, inl, inr, ℕ, List, [], ◌∷◌, length, take, All, AllPairs, refl, arith},
    lemmas.List.Elements.{All-cons, All-filter, All-nil, All-weaker},
  },
  macsec_gcm.specs.Octets.same_octets,
  macsec_suite.specs.CipherUses.CipherUse,
  macsec_commands.specs.declared.{config.EndConfig.EndConfig, event.Event.Event},
  macsec_hash_keys.{
    proofs.{Counting.{few_of_all_keys, own_key_is_of_them}, UnderKey.under_key},
    specs.{Forgeries.{IsWithin, Opens, under}, Tags.mask_of},
  },
  macsec_link.{
    proofs.{
      Deliveries.Grammar,
      Forged.{forged_within, one_forged, possible, seals_within, tag_long},
      Opened.opened_opens,
      SealedUses.{ivs_apart, seals_open},
    },
    specs.{
      Beginnings.AreSound,
      Forgery.{GenuineOrForged, IsForgedAt, trace_before},
      Genuine.IsGenuine,
      Origin.{ComesFromOther, ComesInOrder},
      Trace.{new_trace, trace_of},
      UniqueIvs.{HasOtherIv, RepeatsNoIv},
      World.end_of,
      World.frame_at,
    },
  },
  macsec_secrecy.proofs.Uses.{Promises, promised_to_all},
  macsec_forgery.specs.Runs.{EveryKeyIsPossibleInRuns, IsForged, OneOfFewKeys, OrderOrForged, OriginOrForged},
}

-- no tag is forged, or one is
or_forged : Promises → (a b : EndConfig) (events : List Event) → AreSound a b events
    → IsGenuine (new_trace a b) events ⊎ IsForged a b events
or_forged promises a b events sound =
    elim (promised_to_all a b events GenuineOrForged (promises a b events sound).genuine_or_forged) [
      | inl genuine ↦ inl genuine
      | inr it ↦ inr (it.0, it.1, it.2)
    ]

-- ---- origin and order

pub origin_or_forged : Promises → OriginOrForged
origin_or_forged promises a b events sound e i k strict le = elim (or_forged promises a b events sound) [
  | inr forged ↦ inl forged
  | inl genuine ↦ inr (promised_to_all a b events ComesFromOther
      (promises a b events sound).origin genuine e i k strict le)
]

pub order_or_forged : Promises → OrderOrForged
order_or_forged promises a b events sound agree e i strict order = elim (or_forged promises a b events sound) [
  | inr forged ↦ inl forged
  | inl genuine ↦ inr (promised_to_all a b events ComesInOrder
      (promises a b events sound).order genuine agree e i strict order)
]

-- ---- every hash key is possible

pub every_key_is_possible_in_runs : Promises → EveryKeyIsPossibleInRuns
every_key_is_possible_in_runs promises a b events sound scis agree sscis key given h =
    let seals : List CipherUse = (trace_of a b events).seals in
    let apart = promised_to_all a b events RepeatsNoIv (promises a b events sound).unique_ivs scis agree sscis in
    possible key given h seals apart (seals_open a b events)

-- ---- one of few keys

pub one_of_few_keys : Promises → Grammar → OneOfFewKeys
one_of_few_keys promises grammar a b events sound moment scis agree sscis it octets =
    let t = trace_before a b events moment in
    let u = it.forged in
    let seals = t.seals in
    let apart : AllPairs HasOtherIv seals = (promises a b events sound).unique_ivs moment scis agree sscis in
    let ivs = ivs_apart u.key seals apart in
    let opens = All-filter (λ s. same_octets s.key u.key) Opens seals (seals_open a b (take moment events)) in
    let own = All-cons (λ s. s.key ≡ u.key) u [] refl (All-nil (λ s. s.key ≡ u.key)) in
    let few = few_of_all_keys 579 u.key (mask_of u.key) (under u.key seals) (u ∷ []) ivs
    (All-weaker Opens (λ s. length s.tag ≡ 16) tag_long (under u.key seals) opens)
    (under_key u.key seals)
    (All-filter (λ s. same_octets s.key u.key) (IsWithin 579) seals
    (seals_within a b events sound 578 moment ((promises a b events sound).seals moment) (sound moment).frames))
    own
    (All-cons (IsWithin 579) u [] (forged_within grammar a b events sound 578 moment it (sound moment).frames)
    (All-nil (IsWithin 579))) in (
      omega (arith, few),
      own_key_is_of_them u.key (under u.key seals) (u ∷ []) octets ivs (under_key u.key seals) opens own
          (one_forged seals u (opened_opens (end_of t.world it.end).state (frame_at t.world it.frame) u it.opened)
          it.not_sealed),
    )

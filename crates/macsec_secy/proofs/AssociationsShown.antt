-- The counters of an SA that an endpoint returns exist exactly if the SA does, and their sums are the SC's counters.
use Rattle.macsec_secy.{
  proofs.{
    Names.{[], ◌||◌, ◌∙◌, ◌∷◌, ◌≡◌, added, ap, AreOfAssociations, arith, Bool, channel_counters_of, ChannelCounters},
    Names.{counters_at, false, has_channel, has_rx, if◌then◌else◌, is_some, IsSound, length, List, map, None, Option},
    Names.{option_and_then, option_map, refl, RxCounters, same_sci, Sci, sci_of_counters, Some, State, sum_of, sym},
    Names.{true, ℕ},
    AssociationsKept.has_rx-no_channel,
    InUse.found,
    Sums.one_sci,
  },
  specs.{Answers.{rx_counters_of, rx_sa_counters_of}, AssociationSums.{association_numbers, rx_sums_of}},
}

-- a list of four is given by its elements 0 to 3
of_four : (associations : List (Option RxCounters)) → length associations ≡ 4 → map (counters_at associations) association_numbers ≡ associations
of_four [] count = absurd (omega (arith, count))
of_four (a ∷ []) count = absurd (omega (arith, count))
of_four (a ∷ b ∷ []) count = absurd (omega (arith, count))
of_four (a ∷ b ∷ c ∷ []) count = absurd (omega (arith, count))
of_four (a ∷ b ∷ c ∷ d ∷ []) count = refl
of_four (a ∷ b ∷ c ∷ d ∷ e ∷ rest) count = absurd (omega (arith, count))

pub shown_sums : (s : State) → IsSound s → (sci : Sci) → rx_counters_of s.rx_counters sci ≡ rx_sums_of s.rx_counters sci
shown_sums s sound sci = by_channel (channel_counters_of s.rx_counters sci) refl
  where
    by_channel : (o : Option ChannelCounters) → channel_counters_of s.rx_counters sci ≡ o →
        option_map (λ (row : ChannelCounters). row.counters) o ≡
        option_map (added (sum_of (map (λ an. option_and_then (λ (row : ChannelCounters). counters_at row.associations an) o) association_numbers)))
        (option_map (λ (row : ChannelCounters). row.removed) o)
    by_channel None is = refl
    by_channel (Some c) is =
        let of = (found (λ (row : ChannelCounters). same_sci row.sci sci) (AreOfAssociations s.rx.rows) s.rx_counters c sound.associations is).holds in
        ap Some (of.sum ∙ ap (λ associations. added (sum_of associations) c.removed) (sym (of_four c.associations of.count)))

no_channel : (channels : List ChannelCounters) (sci : Sci) → channel_counters_of channels sci ≡ None → has_channel (map sci_of_counters channels) sci ≡ false
no_channel [] sci none = refl
no_channel (c ∷ channels) sci none = by_test (same_sci c.sci sci) (no_channel channels sci) none
  where
    by_test : (b : Bool) → (channel_counters_of channels sci ≡ None → has_channel (map sci_of_counters channels) sci ≡ false) →
        (if b then Some c else channel_counters_of channels sci) ≡ None → (b || has_channel (map sci_of_counters channels) sci) ≡ false
    by_test true later none' = cc
    by_test false later none' = later none'

pub shown_there : (s : State) → IsSound s → (sci : Sci) (an : ℕ) → is_some (rx_sa_counters_of s.rx_counters sci an) ≡ has_rx s.rx.rows sci an
shown_there s sound sci an = by_channel (channel_counters_of s.rx_counters sci) refl
  where
    by_channel : (o : Option ChannelCounters) → channel_counters_of s.rx_counters sci ≡ o →
        is_some (option_and_then (λ (row : ChannelCounters). counters_at row.associations an) o) ≡ has_rx s.rx.rows sci an
    by_channel None is =
        let none = no_channel s.rx_counters sci is in
        sym (has_rx-no_channel s.rx.scis s.rx.rows sci an sound.rx.rows (ap (λ scis. has_channel scis sci) (sym sound.channels) ∙ none))
    by_channel (Some c) is =
        let it = found (λ (row : ChannelCounters). same_sci row.sci sci) (AreOfAssociations s.rx.rows) s.rx_counters c sound.associations is in
        it.holds.there an ∙ ap (λ t. has_rx s.rx.rows t an) (one_sci c.sci sci it.passes)

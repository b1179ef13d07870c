-- Changing the counters of the SC at an index is changing those of the SC with its SCI, since no two SCs have the same
-- SCI.
use Rattle.std.proofs.Common.{slice_get}
use Rattle.macsec_secy.proofs.{
  Names.{[], ◌||◌, ◌∙◌, ◌∷◌, ◌≡◌, ap, AreScis, at_channel, Bool, ChannelCounters, eq-eqb, false, get_or, has_channel},
  Names.{if◌then◌else◌, List, map, refl, same_octets, same_sci, Sci, sci_of_counters, set, Some, suc, sym, true, zero},
  Names.ℕ,
  Sums.{map-at_channel_elsewhere, one_sci},
}

same_octets-refl : (xs : List ℕ) → same_octets xs xs ≡ true
same_octets-refl [] = refl
same_octets-refl (x ∷ xs) = rw (eq-eqb x x refl, same_octets-refl xs) refl

-- an SC at an index is one of the SCs
has_channel-at : (scis : List Sci) (sci : Sci) (i : ℕ) → slice_get scis i ≡ Some sci → has_channel scis sci ≡ true
has_channel-at [] sci i there = cc
has_channel-at (s ∷ scis) sci zero there = let same : s ≡ sci = cc in rw (same, same_octets-refl sci.0) refl
has_channel-at (s ∷ scis) sci (suc i) there = by_test (same_sci s sci) (has_channel-at scis sci i there)
  where
    by_test : (b : Bool) → has_channel scis sci ≡ true → (b || has_channel scis sci) ≡ true
    by_test true later = refl
    by_test false later = later

pub map-at_channel_at : (change : ChannelCounters → ChannelCounters) (sci : Sci) (rows : List ChannelCounters) (i : ℕ) (d : ChannelCounters) → AreScis (map sci_of_counters rows) →
    slice_get (map sci_of_counters rows) i ≡ Some sci → set rows i (change (get_or rows i d)) ≡ map (at_channel change sci) rows
map-at_channel_at change sci [] i d distinct there = cc
map-at_channel_at change sci (row ∷ rows) zero d distinct there =
    let same : row.sci ≡ sci = cc in
    let none : has_channel (map sci_of_counters rows) sci ≡ false = ap (has_channel (map sci_of_counters rows)) (sym same) ∙ distinct.1 in
    let here : same_sci row.sci sci ≡ true = ap (λ (s : Sci). same_sci s sci) same ∙ same_octets-refl sci.0 in
    sym (ap (λ b. (if b then change row else row) ∷ map (at_channel change sci) rows) here ∙ ap (λ rs. change row ∷ rs) (map-at_channel_elsewhere change sci rows none))
map-at_channel_at change sci (row ∷ rows) (suc i) d distinct there =
    let among : has_channel (map sci_of_counters rows) sci ≡ true = has_channel-at (map sci_of_counters rows) sci i there in
    by_test (same_sci row.sci sci) refl among (map-at_channel_at change sci rows i d distinct.2 there)
  where
    by_test : (b : Bool) → same_sci row.sci sci ≡ b → has_channel (map sci_of_counters rows) sci ≡ true → set rows i (change (get_or rows i d)) ≡ map (at_channel change sci) rows →
        row ∷ set rows i (change (get_or rows i d)) ≡ (if b then change row else row) ∷ map (at_channel change sci) rows
    by_test true same among later =
        absurd (let no = sym among ∙ ap (has_channel (map sci_of_counters rows)) (sym (one_sci row.sci sci same)) ∙ distinct.1 in cc)
    by_test false other among later = ap (λ rs. row ∷ rs) later

-- Every input keeps the counters of each SC, in the order of the SCs.
use Rattle.std.proofs.lemmas.List.{length-map}
use Rattle.macsec_secy.proofs.{
  Names.{[], ◌∙◌, ◌∷◌, ◌≡◌, ap, at_channel, Bool, ChannelCounters, count_in_channel, counted_at_place, counted_at_row},
  Names.{false, filter, if◌then◌else◌, is_counted_by_channel, Judgement, length, List, map, None, not, Option, refill},
  Names.{refl, rx_packet_counted, RxRow, same_sci, Sci, sci_of_counters, Some, true, Verdict, ℕ},
  KeysKept.field_kept,
  Lent.left_in_place,
}

pub scis_kept : (change : ChannelCounters → ChannelCounters) → ((row : ChannelCounters) → (change row).sci ≡ row.sci) → (sci : Sci) (rows : List ChannelCounters) →
    map sci_of_counters (map (at_channel change sci) rows) ≡ map sci_of_counters rows
scis_kept change same sci [] = refl
scis_kept change same sci (row ∷ rows) =
    ap (λ s. s ∷ map sci_of_counters (map (at_channel change sci) rows)) (field_kept sci_of_counters change same (same_sci row.sci sci) row) ∙
    ap (λ ss. row.sci ∷ ss) (scis_kept change same sci rows)

pub after_judging : (j : Judgement) (rows : List ChannelCounters) → map sci_of_counters (rx_packet_counted j rows) ≡ map sci_of_counters rows
after_judging j rows = by_parts (is_counted_by_channel j) j.row
  where
    by_parts : (b : Bool) (row : Option RxRow) → map sci_of_counters (if b then counted_at_row j.verdict row rows else rows) ≡ map sci_of_counters rows
    by_parts false row = refl
    by_parts true None = refl
    by_parts true (Some row) = scis_kept (count_in_channel j.verdict row.an) (λ r. refl) row.sci rows

pub without_counters : (sci : Sci) (rows : List ChannelCounters) →
    map sci_of_counters (filter (λ row. not (same_sci row.sci sci)) rows) ≡ filter (λ s. not (same_sci s sci)) (map sci_of_counters rows)
without_counters sci [] = refl
without_counters sci (row ∷ rows) = by_test (not (same_sci row.sci sci)) (without_counters sci rows)
  where
    by_test : (test : Bool) → map sci_of_counters (filter (λ r. not (same_sci r.sci sci)) rows) ≡ filter (λ s. not (same_sci s sci)) (map sci_of_counters rows) →
        map sci_of_counters (if test then row ∷ filter (λ r. not (same_sci r.sci sci)) rows else filter (λ r. not (same_sci r.sci sci)) rows) ≡
        (if test then row.sci ∷ filter (λ s. not (same_sci s sci)) (map sci_of_counters rows) else filter (λ s. not (same_sci s sci)) (map sci_of_counters rows))
    by_test true later = ap (λ ss. row.sci ∷ ss) later
    by_test false later = later

length_kept : (verdict : Verdict) (place : Option (Sci × ℕ)) (rows : List ChannelCounters) → length (counted_at_place verdict place rows) ≡ length rows
length_kept verdict None rows = refl
length_kept verdict (Some place) rows = length-map rows (at_channel (count_in_channel verdict place.1) place.0)

-- the SCs after one of them was changed through a borrowed slice
pub changed_again : (old lent new : List ChannelCounters) (change : ChannelCounters → ChannelCounters) (sci : Sci) → lent ≡ old → new ≡ map (at_channel change sci) lent →
    refill (length old) old new ≡ map (at_channel change sci) old
changed_again old lent new change sci same changed =
    let left : new ≡ map (at_channel change sci) old = changed ∙ ap (map (at_channel change sci)) same in
    left_in_place (length old) old new (ap length left ∙ length-map old (at_channel change sci)) ∙ left

-- after the borrow of the counters as a slice, they are as the borrower left them
pub counted_again : (old lent new : List ChannelCounters) (verdict : Verdict) (place : Option (Sci × ℕ)) → lent ≡ old → new ≡ counted_at_place verdict place lent →
    refill (length old) old new ≡ counted_at_place verdict place old
counted_again old lent new verdict place same counted =
    let left : new ≡ counted_at_place verdict place old = counted ∙ ap (counted_at_place verdict place) same in
    left_in_place (length old) old new (ap length left ∙ length_kept verdict place old) ∙ left

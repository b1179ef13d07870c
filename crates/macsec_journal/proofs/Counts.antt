-- How many entries there are.
use Rattle.std.proofs.{
  Common.{ℕ, ◌+◌, ◌/◌, ◌<◌, ◌≤◌, ◌^◌, ◌≡◌, ◌∙◌, Bool, true, false, List, [], ◌∷◌, ◌++◌, length, map, max, filter, refl},
  Common.{ap, arith},
  Common.{if◌then◌else◌, length-append, ltb-true, nat_le, nat_lt, not, ◌||◌},
  lemmas.{
    Bool.{and_parts, not-false, or_parts},
    List.{Folds.list_any-append, Sums.{count_by-le-length, length-filter}, length-map},
  },
}
use Rattle.macsec_gcm.specs.Octets.{same_octets}
use Rattle.macsec_reserve.specs.{
  Entries.{has_entry, raised_by, with_all, with_one_more},
  declared.reservation.Reservation.Reservation,
}
use Rattle.macsec_journal.specs.{Format.fits, Machine.{Journal, is_full, new_among}}

-- a name that has an entry keeps it
raised_has : (r : Reservation) (entries : List Reservation) (name : List ℕ) → has_entry (map (raised_by r) entries) name
    ≡ has_entry entries name
raised_has r [] name = refl
raised_has r (e ∷ es) name =
    by_own (same_octets e.name r.name) (ap (λ (b : Bool). same_octets e.name name || b) (raised_has r es name))
  where
    by_own : (b : Bool) → (same_octets e.name name || has_entry (map (raised_by r) es) name) ≡
        (same_octets e.name name || has_entry es name) → (same_octets (if b then record e { last = max e.last r.last }
        else e).name name || has_entry (map (raised_by r) es) name) ≡ (same_octets e.name name || has_entry es name)
    by_own true same = same
    by_own false same = same

still_has : (entries : List Reservation) (r : Reservation) (name : List ℕ) → has_entry entries name ≡ true → has_entry
    (with_one_more entries r) name ≡ true
still_has entries r name has = by_entry (has_entry entries r.name)
  where
    by_entry : (b : Bool) → has_entry (if b then map (raised_by r) entries else entries ++ r ∷ []) name ≡ true
    by_entry true = raised_has r entries name ∙ has
    by_entry false =
        list_any-append (λ (e : Reservation). same_octets e.name name) entries (r ∷ []) ∙ ap
        (λ (b : Bool). b || (same_octets r.name name || false)) has

-- so no more records have a new name
fewer_new : (entries : List Reservation) (r : Reservation) (rs : List Reservation) → length
    (new_among (with_one_more entries r) rs) ≤ length (new_among entries rs)
fewer_new entries r [] = omega arith
fewer_new entries r (q ∷ qs) = by_tests (has_entry entries q.name) (has_entry (with_one_more entries r) q.name)
    (still_has entries r q.name) (fewer_new entries r qs)
  where
    now : List Reservation
    now = new_among (with_one_more entries r) qs

    before : List Reservation
    before = new_among entries qs

    by_tests : (b c : Bool) → (b ≡ true → c ≡ true) → length now ≤ length before → length
        (if not c then q ∷ now else now) ≤ length (if not b then q ∷ before else before)
    by_tests true true still less = less
    by_tests true false still less = let contrary = still refl in absurd cc
    by_tests false true still less = omega (arith, less)
    by_tests false false still less = omega (arith, less)

-- one record is taken in, and others are to be
pub one_more_fits : (entries : List Reservation) (r : Reservation) (rs : List Reservation) →
    length (with_one_more entries r) + length (new_among (with_one_more entries r) rs) ≤ length entries + length
    (new_among entries (r ∷ rs))
one_more_fits entries r rs = by_entry (has_entry entries r.name)
  where
    by_entry : (b : Bool) → length (if b then map (raised_by r) entries else entries ++ r ∷ []) + length
        (new_among (with_one_more entries r) rs)
        ≤ length entries + length (if not b then r ∷ new_among entries rs else new_among entries rs)
    by_entry true = omega (arith, length-map entries (raised_by r), fewer_new entries r rs)
    by_entry false = omega (arith, length-append entries (r ∷ []), fewer_new entries r rs)

pub all_fit : (rs entries : List Reservation) → length (with_all entries rs) ≤ length entries + length
    (new_among entries rs)
all_fit [] entries = omega arith
all_fit (r ∷ rs) entries = omega (arith, all_fit rs (with_one_more entries r), one_more_fits entries r rs)

pub fewer : (p : Reservation → Bool) (rs : List Reservation) → length (filter p rs) ≤ length rs
fewer p rs = omega (arith, length-filter p rs, count_by-le-length p rs)

-- what fits into a file
pub record Fits (limit count : ℕ) : Type 0 where
  pub file : count + 1 < limit / 64
  pub number : count < 2 ^ 64

pub fits_so : (limit count : ℕ) → fits limit count ≡ true → Fits limit count
fits_so limit count is =
    let both = and_parts (nat_lt (count + 1) (limit / 64)) (nat_lt count (2 ^ 64)) is in
    record { file = ltb-true (count + 1) (limit / 64) both.0; number = ltb-true count (2 ^ 64) both.1 }

-- what an order that is not refused has
pub order_fits : (rs : List Reservation) (j : Journal) → is_full rs j ≡ false → Fits j.limit
    (length j.table + length (new_among j.table rs))
order_fits rs j is =
    let count : ℕ = length j.table + length (new_among j.table rs) in
    fits_so j.limit count (not-false (fits j.limit count) (or_parts (nat_le (j.limit / 64) (length rs))
    (not (fits j.limit count)) is).1)

-- One entry for each name: it says what the whole list says.
use Rattle.std.proofs.Common.{◌≢◌}
use Rattle.macsec_reserve.proofs.{
  Prelude.{[], ◌++◌, ◌+◌, ◌||◌, ◌∙◌, ◌∷◌, ◌≡◌, ◌≤◌, All, All-append, All-cons, All-head, All-map, All-nil, All-tail},
  Prelude.{All-weaker, AllPairs, AllPairs-cons, arith, Bool, bytes_eq-Decides, false, has_entry, highest},
  Prelude.{if◌then◌else◌, IsReservation, length, length-append, length-map, List, map, max, or_parts, raised_by},
  Prelude.{reduced, refl, Reservation, same_octets, subst, sym, true, with_all, ℕ},
  HighestOf.{highest-append, highest_of_one},
  KeyEntries.raised_reserves,
  Pairs.{no_pairs, one_alone, pairs-append, pairs-head, pairs-tail},
}
use Rattle.macsec_reserve.specs.Entries.{SaysTheSame, with_one_more}

-- ---- what the entries say

-- where an entry has the name, raising the entries reserves the number
raised_has : (r : Reservation) (entries : List Reservation) → has_entry entries r.name ≡ true → r.last ≤ highest (map (raised_by r) entries) r.name
raised_has r [] has = cc
raised_has r (e ∷ es) has = by_own (same_octets e.name r.name) refl (raised_has r es) has
  where
    by_own : (own : Bool) → same_octets e.name r.name ≡ own → (has_entry es r.name ≡ true → r.last ≤ highest (map (raised_by r) es) r.name) →
        own || has_entry es r.name ≡ true → r.last ≤ highest ((if own then record e { last = max e.last r.last } else e) ∷ map (raised_by r) es) r.name
    by_own true is later has' =
        subst (λ (b : Bool). r.last ≤ (if b then max (max e.last r.last) (highest (map (raised_by r) es) r.name) else highest (map (raised_by r) es) r.name)) (sym is) (omega arith)
    by_own false is later has' =
        subst (λ (b : Bool). r.last ≤ (if b then max e.last (highest (map (raised_by r) es) r.name) else highest (map (raised_by r) es) r.name)) (sym is) (later has')

-- a name that is the reservation's, or another
by_name : (r : Reservation) (name : List ℕ) (most : ℕ) → (name ≡ r.name → r.last ≤ most) → highest (r ∷ []) name ≤ most
by_name r name most own = by_test (same_octets r.name name) refl
  where
    by_test : (b : Bool) → same_octets r.name name ≡ b → highest (r ∷ []) name ≤ most
    by_test true is =
        let last : highest (r ∷ []) name ≡ r.last = highest_of_one r name true is in
        let less : r.last ≤ most = own (sym ((bytes_eq-Decides r.name name).0 is)) in
        omega (arith, last, less)
    by_test false is = let none : highest (r ∷ []) name ≡ 0 = highest_of_one r name false is in omega (arith, none)

raised_says : (entries : List Reservation) (r : Reservation) (name : List ℕ) → has_entry entries r.name ≡ true →
    highest (map (raised_by r) entries) name ≡ max (highest entries name) (highest (r ∷ []) name)
raised_says entries r name has =
    let within = raised_reserves r entries name in
    let own : highest (r ∷ []) name ≤ highest (map (raised_by r) entries) name =
    by_name r name (highest (map (raised_by r) entries) name)
    (λ is. subst (λ (n : List ℕ). r.last ≤ highest (map (raised_by r) entries) n) (sym is) (raised_has r entries has)) in
    omega (arith, within.0, within.1, own)

one_more_says : (entries : List Reservation) (r : Reservation) (name : List ℕ) → highest (with_one_more entries r) name ≡ max (highest entries name) (highest (r ∷ []) name)
one_more_says entries r name = by_entry (has_entry entries r.name) refl
  where
    by_entry : (has : Bool) → has_entry entries r.name ≡ has →
        highest (if has then map (raised_by r) entries else entries ++ r ∷ []) name ≡ max (highest entries name) (highest (r ∷ []) name)
    by_entry true is = raised_says entries r name is
    by_entry false is = highest-append entries (r ∷ []) name

all_say : (rs entries : List Reservation) (name : List ℕ) → highest (with_all entries rs) name ≡ max (highest entries name) (highest rs name)
all_say [] entries name = omega arith
all_say (r ∷ rs) entries name =
    omega (arith, all_say rs (with_one_more entries r) name, one_more_says entries r name, highest-append (r ∷ []) rs name)

pub reduced_reserves : (rs : List Reservation) (name : List ℕ) → highest (reduced rs) name ≡ highest rs name
reduced_reserves rs name = omega (arith, all_say rs [] name)

-- ---- each name once

abbrev AreApart : List Reservation → Type 0
AreApart entries = AllPairs (λ x y. x.name ≢ y.name) entries

keeps_name : (r e : Reservation) → (raised_by r e).name ≡ e.name
keeps_name r e = by_test (same_octets e.name r.name)
  where
    by_test : (b : Bool) → (if b then record e { last = max e.last r.last } else e).name ≡ e.name
    by_test true = refl
    by_test false = refl

raised_apart : (r : Reservation) (entries : List Reservation) → AreApart entries → AreApart (map (raised_by r) entries)
raised_apart r [] apart = no_pairs (λ (x y : Reservation). x.name ≢ y.name)
raised_apart r (e ∷ es) apart =
    AllPairs-cons (λ (x y : Reservation). x.name ≢ y.name) (raised_by r e) (map (raised_by r) es)
    (All-map (λ (y : Reservation). (raised_by r e).name ≢ y.name) (raised_by r) es
    (All-weaker (λ (y : Reservation). e.name ≢ y.name) (λ (y : Reservation). (raised_by r e).name ≢ (raised_by r y).name)
    (λ y differ same. differ (sym (keeps_name r e) ∙ same ∙ keeps_name r y)) es (pairs-head (λ (x y : Reservation). x.name ≢ y.name) e es apart)))
    (raised_apart r es (pairs-tail (λ (x y : Reservation). x.name ≢ y.name) e es apart))

none_has : (entries : List Reservation) (name : List ℕ) → has_entry entries name ≡ false → All (λ (e : Reservation). e.name ≢ name) entries
none_has [] name none = All-nil (λ (e : Reservation). e.name ≢ name)
none_has (e ∷ es) name none =
    let parts = or_parts (same_octets e.name name) (has_entry es name) none in
    All-cons (λ (x : Reservation). x.name ≢ name) e es (λ same. let is : same_octets e.name name ≡ true = (bytes_eq-Decides e.name name).1 same in cc) (none_has es name parts.1)

one_more_apart : (entries : List Reservation) (r : Reservation) → AreApart entries → AreApart (with_one_more entries r)
one_more_apart entries r apart = by_entry (has_entry entries r.name) refl
  where
    by_entry : (has : Bool) → has_entry entries r.name ≡ has → AreApart (if has then map (raised_by r) entries else entries ++ r ∷ [])
    by_entry true is = raised_apart r entries apart
    by_entry false is =
        pairs-append (λ (x y : Reservation). x.name ≢ y.name) entries (r ∷ []) apart (one_alone (λ (x y : Reservation). x.name ≢ y.name) r)
        (All-weaker (λ (e : Reservation). e.name ≢ r.name) (λ (e : Reservation). All (λ (y : Reservation). e.name ≢ y.name) (r ∷ []))
        (λ e differ. All-cons (λ (y : Reservation). e.name ≢ y.name) r [] differ (All-nil (λ (y : Reservation). e.name ≢ y.name))) entries (none_has entries r.name is))

all_apart : (rs entries : List Reservation) → AreApart entries → AreApart (with_all entries rs)
all_apart [] entries apart = apart
all_apart (r ∷ rs) entries apart = all_apart rs (with_one_more entries r) (one_more_apart entries r apart)

pub reduces : (rs : List Reservation) → SaysTheSame rs (reduced rs)
reduces rs = record { same = reduced_reserves rs; once = all_apart rs [] (no_pairs (λ (x y : Reservation). x.name ≢ y.name)) }

-- ---- how many entries there are, and of what form

one_more_fits : (entries : List Reservation) (r : Reservation) → length (with_one_more entries r) ≤ length entries + 1
one_more_fits entries r = by_entry (has_entry entries r.name)
  where
    by_entry : (has : Bool) → length (if has then map (raised_by r) entries else entries ++ r ∷ []) ≤ length entries + 1
    by_entry true = omega (arith, length-map entries (raised_by r))
    by_entry false = omega (arith, length-append entries (r ∷ []))

all_fit : (rs entries : List Reservation) → length (with_all entries rs) ≤ length entries + length rs
all_fit [] entries = omega arith
all_fit (r ∷ rs) entries = omega (arith, all_fit rs (with_one_more entries r), one_more_fits entries r)

pub reduced_fits : (rs : List Reservation) → length (reduced rs) ≤ length rs
reduced_fits rs = omega (arith, all_fit rs [])

raised_is : (r e : Reservation) → IsReservation r → IsReservation e → IsReservation (raised_by r e)
raised_is r e is own = by_test (same_octets e.name r.name)
  where
    by_test : (b : Bool) → IsReservation (if b then record e { last = max e.last r.last } else e)
    by_test true = record { name = own.name; last = omega (arith, is.last, own.last) }
    by_test false = own

one_more_is : (entries : List Reservation) (r : Reservation) → IsReservation r → All IsReservation entries → All IsReservation (with_one_more entries r)
one_more_is entries r is are = by_entry (has_entry entries r.name)
  where
    by_entry : (has : Bool) → All IsReservation (if has then map (raised_by r) entries else entries ++ r ∷ [])
    by_entry true = All-map IsReservation (raised_by r) entries (All-weaker IsReservation (λ e. IsReservation (raised_by r e)) (λ e own. raised_is r e is own) entries are)
    by_entry false = All-append IsReservation entries (r ∷ []) are (All-cons IsReservation r [] is (All-nil IsReservation))

all_are : (rs entries : List Reservation) → All IsReservation rs → All IsReservation entries → All IsReservation (with_all entries rs)
all_are [] entries are own = own
all_are (r ∷ rs) entries are own =
    all_are rs (with_one_more entries r) (All-tail IsReservation r rs are) (one_more_is entries r (All-head IsReservation r rs are) own)

pub reduced_are : (rs : List Reservation) → All IsReservation rs → All IsReservation (reduced rs)
reduced_are rs are = all_are rs [] are (All-nil IsReservation)

-- ---- one after another

pub with_all-append : (rs qs entries : List Reservation) → with_all entries (rs ++ qs) ≡ with_all (with_all entries rs) qs
with_all-append [] qs entries = refl
with_all-append (r ∷ rs) qs entries = with_all-append rs qs (with_one_more entries r)

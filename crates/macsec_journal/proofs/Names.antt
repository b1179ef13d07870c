-- How many entries there are of names that a table has.
use Rattle.std.proofs.{
  Common.{◌≡◌, ◌≢◌, ℕ, ◌+◌, ◌≤◌, Bool, true, false, List, [], ◌∷◌, ◌++◌, length, map, max, refl, ap, sym, ◌∙◌, arith},
  Common.{All},
  Common.{if◌then◌else◌, not, ◌||◌},
  lemmas.{
    List.Elements.{All-append, All-cons, All-head, All-map, All-nil, All-tail, All-weaker},
    Slice.Eq.bytes_eq-Decides,
  },
}
use Rattle.macsec_gcm.specs.Octets.{same_octets}
use Rattle.macsec_reserve.{
  proofs.{Pairs.{pairs-head, pairs-tail}, Reduced.reduces},
  specs.{
    Entries.{has_entry, raised_by, reduced, with_all, with_one_more},
    declared.reservation.Reservation.Reservation,
  },
}
use Rattle.macsec_journal.{
  proofs.{Counts.fewer, Going.{AreApart, other_name}},
  specs.Machine.without,
}

abbrev HasName : List Reservation → Reservation → Type 0
HasName table r = has_entry table r.name ≡ true

-- ---- a table without a name

shorter : (table : List Reservation) (name : List ℕ) → has_entry table name ≡ true → length (without name table) + 1 ≤
    length table
shorter [] name has = cc
shorter (r ∷ rs) name has = by_own (same_octets r.name name) (shorter rs name) has
  where
    by_own : (b : Bool) → (has_entry rs name ≡ true → length (without name rs) + 1 ≤ length rs) →
        (b || has_entry rs name) ≡ true →
        length (if not b then r ∷ without name rs else without name rs) + 1 ≤ length (r ∷ rs)
    by_own true later is = omega (arith, fewer (λ (x : Reservation). not (same_octets x.name name)) rs)
    by_own false later is = omega (arith, later is)

still_has : (table : List Reservation) (name n : List ℕ) → has_entry table n ≡ true → same_octets name n ≡ false →
    has_entry (without name table) n ≡ true
still_has [] name n has differ = has
still_has (r ∷ rs) name n has differ = by_own (same_octets r.name name) (same_octets r.name n) refl refl
    (λ is. still_has rs name n is differ) has
  where
    by_own : (b c : Bool) → same_octets r.name name ≡ b → same_octets r.name n ≡ c →
        (has_entry rs n ≡ true → has_entry (without name rs) n ≡ true) → (c || has_entry rs n) ≡ true →
        has_entry (if not b then r ∷ without name rs else without name rs) n ≡ true
    by_own true true is is' later has' =
        let contrary : same_octets name n ≡ true = ap (λ m. same_octets m n) (sym ((bytes_eq-Decides r.name name).0 is))
        ∙ is' in
        cc
    by_own true false is is' later has' = later has'
    by_own false true is is' later has' = ap (λ (b : Bool). b || has_entry (without name rs) n) is'
    by_own false false is is' later has' = ap (λ (b : Bool). b || has_entry (without name rs) n) is' ∙ later has'

all_still : (name : List ℕ) (es table : List Reservation) → All (λ (x : Reservation). name ≢ x.name) es → All
    (HasName table) es → All (HasName (without name table)) es
all_still name [] table differ have = All-nil (HasName (without name table))
all_still name (x ∷ xs) table differ have =
    let other : same_octets name x.name ≡ false =
    other_name name x.name (same_octets name x.name) (All-head (λ (y : Reservation). name ≢ y.name) x xs differ) refl in
    All-cons (HasName (without name table)) x xs (still_has table name x.name (All-head (HasName table) x xs have)
    other)
    (all_still name xs table (All-tail (λ (y : Reservation). name ≢ y.name) x xs differ)
    (All-tail (HasName table) x xs have))

apart_fit : (es table : List Reservation) → AreApart es → All (HasName table) es → length es ≤ length table
apart_fit [] table apart have = omega arith
apart_fit (e ∷ es) table apart have =
    let rest : All (HasName (without e.name table)) es =
    all_still e.name es table (pairs-head (λ (x y : Reservation). x.name ≢ y.name) e es apart)
    (All-tail (HasName table) e es have) in
    omega (
      arith,
      apart_fit es (without e.name table) (pairs-tail (λ (x y : Reservation). x.name ≢ y.name) e es apart) rest,
      shorter table e.name (All-head (HasName table) e es have),
    )

-- ---- entries have the names of the records

raised_has : (table : List Reservation) (r e : Reservation) → HasName table e → HasName table (raised_by r e)
raised_has table r e has = by_own (same_octets e.name r.name)
  where
    by_own : (b : Bool) → HasName table (if b then record e { last = max e.last r.last } else e)
    by_own true = has
    by_own false = has

one_more_has : (table entries : List Reservation) (r : Reservation) → All (HasName table) entries → HasName table r →
    All (HasName table) (with_one_more entries r)
one_more_has table entries r have has = by_entry (has_entry entries r.name)
  where
    by_entry : (b : Bool) → All (HasName table) (if b then map (raised_by r) entries else entries ++ r ∷ [])
    by_entry true = All-map (HasName table) (raised_by r) entries (All-weaker (HasName table)
        (λ e. HasName table (raised_by r e)) (raised_has table r) entries have)
    by_entry false =
        All-append (HasName table) entries (r ∷ []) have (All-cons (HasName table) r [] has (All-nil (HasName table)))

all_have : (table rs entries : List Reservation) → All (HasName table) entries → All (HasName table) rs → All
    (HasName table) (with_all entries rs)
all_have table [] entries have more = have
all_have table (r ∷ rs) entries have more =
    all_have table rs (with_one_more entries r) (one_more_has table entries r have (All-head (HasName table) r rs more))
    (All-tail (HasName table) r rs more)

pub names_fit : (table rs : List Reservation) → All (HasName table) rs → length (reduced rs) ≤ length table
names_fit table rs have = apart_fit (reduced rs) table (reduces rs).once
    (all_have table rs [] (All-nil (HasName table)) have)

-- ---- a name that is let go

pub left_out : (table : List Reservation) (name : List ℕ) → has_entry (without name table) name ≡ false
left_out [] name = refl
left_out (r ∷ rs) name = by_own (same_octets r.name name) refl (left_out rs name)
  where
    by_own : (b : Bool) → same_octets r.name name ≡ b → has_entry (without name rs) name ≡ false →
        has_entry (if not b then r ∷ without name rs else without name rs) name ≡ false
    by_own true is later = later
    by_own false is later = ap (λ (b : Bool). b || has_entry (without name rs) name) is ∙ later

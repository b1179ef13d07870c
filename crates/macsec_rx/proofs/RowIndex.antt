-- The index of the SAs, and changing the one row that it finds.
use Rattle.std.proofs.{
  Common.{◌≡◌, ◌∙◌, ℕ, zero, suc, ◌+◌, ◌*◌, ◌<◌, ◌≤◌, Bool, true, false, cond, ◌&&◌, ◌||◌, List, [], ◌∷◌, ◌++◌, map},
  Common.{length, take, get_or, refl, sym, ap, subst, arith, inl, inr, get_or-set_other, get_or-set_same},
  Common.{length-append, IsSomeAnd, Option, Some, None, option_map, slice_get, if◌then◌else◌, ◌==◌, length-set, eq-eqb},
  Common.eqb-true,
  Math.ListN.set,
  lemmas.{Bool.{and_parts, Decides.eqb_tells}, List.length-map, Option.{slice_get-map, slice_get_past}},
}
use Rattle.macsec_tag.specs.declared.identifiers.Sci.{Sci}
use Rattle.macsec_rx.proofs.{
  Room.{cond_none, one_place, same_slot, slot_below},
  RxRows.{AreRxRows-map, IsRxRow-at_place, KeepsPlace, is_at-swapped},
  Scis.{one_sci, same_sci-refl},
}
use Rattle.macsec_rx.specs.{
  Channels.{at_place, is_at, rx_row, same_sci, with_rx},
  Commands.has_channel,
  Index.{IsIndex, channel_place, slot},
  Judge.in_use,
  Limits.{max_association_count, max_channel_count, max_row_count},
  Rows.{AreRxRows, IsRxRow},
  declared.RxRow.RxRow,
}

-- ---- SAs and their positions

-- an SA has the SCI and the association number that it is found by
pub place_found : (sci : Sci) (an : ℕ) (row : RxRow) → is_at sci an row ≡ true → (row.sci ≡ sci) × (row.an ≡ an)
place_found sci an row at =
    let parts = and_parts (same_sci row.sci sci) (row.an == an) at in
    (one_sci row.sci sci parts.0, eqb-true row.an an parts.1)

pub is_at-own : (row : RxRow) → is_at row.sci row.an row ≡ true
is_at-own row = rw (same_sci-refl row.sci, eq-eqb row.an row.an refl) refl

-- an SCI without an SC has no SA
pub rx_row-no_channel : (scis : List Sci) (rows : List RxRow) (sci : Sci) (an : ℕ) → AreRxRows scis rows → has_channel scis sci ≡ false → rx_row rows sci an ≡ None
rx_row-no_channel scis [] sci an h none = refl
rx_row-no_channel scis (row ∷ rows) sci an h none = by_test (is_at sci an row) refl (rx_row-no_channel scis rows sci an h.2 none)
  where
    by_test : (b : Bool) → is_at sci an row ≡ b → rx_row rows sci an ≡ None → cond b (Some row) (rx_row rows sci an) ≡ None
    by_test true at rest =
        let there : has_channel scis sci ≡ true = subst (λ s. has_channel scis s ≡ true) (place_found sci an row at).0 h.0.channel in
        absurd (let no = sym there ∙ none in cc)
    by_test false at rest = rest

-- an SA that is found is the one of the SCI and the association number
pub is_found : (rows : List RxRow) (sci : Sci) (an : ℕ) (row : RxRow) → rx_row rows sci an ≡ Some row → is_at sci an row ≡ true
is_found [] sci an row there = cc
is_found (first ∷ rows) sci an row there = by_test (is_at sci an first) refl (is_found rows sci an row) there
  where
    by_test : (b : Bool) → is_at sci an first ≡ b → (rx_row rows sci an ≡ Some row → is_at sci an row ≡ true) →
        cond b (Some first) (rx_row rows sci an) ≡ Some row → is_at sci an row ≡ true
    by_test true at later e = let same : first ≡ row = cc in subst (λ r. is_at sci an r ≡ true) same at
    by_test false at later e = later e

-- the SA at an index has the bounds that all SAs have
pub IsRxRow-at : (scis : List Sci) (rows : List RxRow) (i : ℕ) (row : RxRow) → AreRxRows scis rows → slice_get rows i ≡ Some row → IsRxRow scis row
IsRxRow-at scis [] i row h there = cc
IsRxRow-at scis (first ∷ rows) zero row h there = let same : first ≡ row = cc in subst (IsRxRow scis) same h.0
IsRxRow-at scis (first ∷ rows) (suc i) row h there = IsRxRow-at scis rows i row h.2 there

-- an SA whose number no row has is none of the rows
pub other_row : (rows : List RxRow) (sci : Sci) (an i : ℕ) (row : RxRow) → rx_row rows sci an ≡ None → slice_get rows i ≡ Some row → is_at sci an row ≡ false
other_row [] sci an i row free there = cc
other_row (first ∷ rows) sci an zero row free there =
    let parts = cond_none (is_at sci an first) first (rx_row rows sci an) free in
    let same : first ≡ row = cc in
    rw (sym same) parts.0
other_row (first ∷ rows) sci an (suc i) row free there =
    let parts = cond_none (is_at sci an first) first (rx_row rows sci an) free in
    other_row rows sci an i row parts.1 there

-- no SA before one has the same SCI and association number
pub free_before : (scis : List Sci) (rows : List RxRow) (i : ℕ) (row : RxRow) → AreRxRows scis rows → slice_get rows i ≡ Some row → rx_row (take i rows) row.sci row.an ≡ None
free_before scis [] i row h there = cc
free_before scis (first ∷ rows) zero row h there = refl
free_before scis (first ∷ rows) (suc i) row h there =
    let other : is_at row.sci row.an first ≡ false = is_at-swapped row first (other_row rows first.sci first.an i row h.1 there) in
    rw other (free_before scis rows i row h.2 there)

-- changing an SA that does not exist changes nothing
with_rx-free : (change : RxRow → RxRow) (rows : List RxRow) (sci : Sci) (an : ℕ) → rx_row rows sci an ≡ None → with_rx change sci an rows ≡ rows
with_rx-free change [] sci an free = refl
with_rx-free change (row ∷ rows) sci an free =
    let parts = cond_none (is_at sci an row) row (rx_row rows sci an) free in
    rw parts.0 (ap (λ rest. row ∷ rest) (with_rx-free change rows sci an parts.1))

-- no two SAs have the same SCI and number, so changing that SA is changing the row at its index
pub with_rx-set : (scis : List Sci) (change : RxRow → RxRow) (rows : List RxRow) (sci : Sci) (an i : ℕ) (row : RxRow) → AreRxRows scis rows →
    slice_get rows i ≡ Some row → is_at sci an row ≡ true → with_rx change sci an rows ≡ set rows i (change row)
with_rx-set scis change [] sci an i row h there at = cc
with_rx-set scis change (first ∷ rows) sci an zero row h there at =
    let same : first ≡ row = cc in
    let here : is_at sci an first ≡ true = rw same at in
    let place = place_found sci an first here in
    let free : rx_row rows sci an ≡ None = subst (λ s. rx_row rows s an ≡ None) place.0 (subst (λ n. rx_row rows first.sci n ≡ None) place.1 h.1) in
    rw here (both (ap change same) (with_rx-free change rows sci an free))
  where
    both : {x y : RxRow} {xs ys : List RxRow} → x ≡ y → xs ≡ ys → x ∷ xs ≡ y ∷ ys
    both p q = cc
with_rx-set scis change (first ∷ rows) sci an (suc i) row h there at =
    let place = place_found sci an row at in
    let apart : is_at row.sci row.an first ≡ false = is_at-swapped row first (other_row rows first.sci first.an i row h.1 there) in
    let other : is_at sci an first ≡ false = subst (λ s. is_at s an first ≡ false) place.0 (subst (λ n. is_at row.sci n first ≡ false) place.1 apart) in
    rw other (ap (λ rest. first ∷ rest) (with_rx-set scis change rows sci an i row h.2 there at))

-- ---- the SA for a frame

if_on : Option RxRow → Option RxRow
if_on None = None
if_on (Some row) = if row.on then Some row else None

pub in_use-none : (rows : List RxRow) (sci : Sci) (an : ℕ) → rx_row rows sci an ≡ None → in_use rows an (Some sci) ≡ None
in_use-none [] sci an free = refl
in_use-none (row ∷ rows) sci an free =
    let parts = cond_none (is_at sci an row) row (rx_row rows sci an) free in
    rw parts.0 (in_use-none rows sci an parts.1)

-- the SA for a frame is the one of its SCI and number, if that is enabled
in_use-rx_row : (scis : List Sci) (rows : List RxRow) (sci : Sci) (an : ℕ) → AreRxRows scis rows → in_use rows an (Some sci) ≡ if_on (rx_row rows sci an)
unfolding if_on
in_use-rx_row scis [] sci an h = refl
in_use-rx_row scis (row ∷ rows) sci an h = by_tests (is_at sci an row) row.on refl refl (in_use-rx_row scis rows sci an h.2)
  where
    by_tests : (b on : Bool) → is_at sci an row ≡ b → row.on ≡ on → in_use rows an (Some sci) ≡ if_on (rx_row rows sci an) →
        cond (b && on) (Some row) (in_use rows an (Some sci)) ≡ if_on (cond b (Some row) (rx_row rows sci an))
    by_tests true true at is rest = rw is refl
    by_tests true false at is rest =
        let place = place_found sci an row at in
        let free : rx_row rows sci an ≡ None = subst (λ s. rx_row rows s an ≡ None) place.0 (subst (λ n. rx_row rows row.sci n ≡ None) place.1 h.1) in
        rw is (in_use-none rows sci an free)
    by_tests false on at is rest = rest

pub in_use-on : (scis : List Sci) (rows : List RxRow) (sci : Sci) (an : ℕ) (row : RxRow) → AreRxRows scis rows → rx_row rows sci an ≡ Some row → row.on ≡ true →
    in_use rows an (Some sci) ≡ Some row
unfolding if_on
in_use-on scis rows sci an row h there on = in_use-rx_row scis rows sci an h ∙ ap if_on there ∙ ap (λ b. if b then Some row else None) on

pub in_use-off : (scis : List Sci) (rows : List RxRow) (sci : Sci) (an : ℕ) (row : RxRow) → AreRxRows scis rows → rx_row rows sci an ≡ Some row → row.on ≡ false →
    in_use rows an (Some sci) ≡ None
unfolding if_on
in_use-off scis rows sci an row h there off = in_use-rx_row scis rows sci an h ∙ ap if_on there ∙ ap (λ b. if b then Some row else None) off

-- ---- the index

-- an index without SAs
pub IsIndex-none : (scis : List Sci) (places : List ℕ) → length places ≡ max_row_count → ((n : ℕ) → n < max_row_count → get_or places n 0 ≡ max_row_count) → IsIndex scis [] places
IsIndex-none scis places long free = record {
  count = long;
  finds = λ sci an there small. refl;
  within = λ n small there. absurd (omega (arith, free n small));
  free = λ n small behind. free n small;
}

rx_row-map_some : (f : RxRow → RxRow) → KeepsPlace f → (rows : List RxRow) (sci : Sci) (an : ℕ) → rx_row (map f rows) sci an ≡ option_map f (rx_row rows sci an)
rx_row-map_some f same [] sci an = refl
rx_row-map_some f same (row ∷ rows) sci an =
    by_tests (is_at sci an (f row)) (is_at sci an row) (rx_row (map f rows) sci an) (rx_row rows sci an) (rw (same.sci row, same.an row) refl) (rx_row-map_some f same rows sci an)
  where
    by_tests : (b c : Bool) (r s : Option RxRow) → b ≡ c → r ≡ option_map f s → cond b (Some (f row)) r ≡ option_map f (cond c (Some row) s)
    by_tests true true r s both e = refl
    by_tests true false r s both e = cc
    by_tests false true r s both e = cc
    by_tests false false r s both e = e

-- a change that keeps SCIs and numbers keeps the index
pub IsIndex-map : (scis : List Sci) (f : RxRow → RxRow) → KeepsPlace f → (rows : List RxRow) (places : List ℕ) → IsIndex scis rows places → IsIndex scis (map f rows) places
IsIndex-map scis f same rows places index = record {
  count = index.count;
  finds = found;
  within = λ n small there. omega (arith, index.within n small there, length-map rows f);
  free = index.free;
}
  where
    found : (sci : Sci) (an : ℕ) → has_channel scis sci ≡ true → an < max_association_count →
        rx_row (map f rows) sci an ≡ slice_get (map f rows) (get_or places (slot scis sci an) 0)
    found sci an there small =
        rx_row-map_some f same rows sci an ∙ ap (option_map f) (index.finds sci an there small) ∙
        sym (slice_get-map f rows (get_or places (slot scis sci an) 0))

slice_get-push : (rows : List RxRow) (new : RxRow) → slice_get (rows ++ new ∷ []) (length rows) ≡ Some new
slice_get-push [] new = refl
slice_get-push (row ∷ rows) new = slice_get-push rows new

slice_get-push_other : (rows : List RxRow) (new : RxRow) (i : ℕ) → (i ≡ length rows → ⊥) → slice_get (rows ++ new ∷ []) i ≡ slice_get rows i
slice_get-push_other [] new zero other = absurd (other refl)
slice_get-push_other [] new (suc i) other = refl
slice_get-push_other (row ∷ rows) new zero other = refl
slice_get-push_other (row ∷ rows) new (suc i) other = slice_get-push_other rows new i (λ e. other (ap suc e))

rx_row-push : (rows : List RxRow) (new : RxRow) → rx_row rows new.sci new.an ≡ None → rx_row (rows ++ new ∷ []) new.sci new.an ≡ Some new
rx_row-push [] new free = rw (is_at-own new) refl
rx_row-push (row ∷ rows) new free =
    let parts = cond_none (is_at new.sci new.an row) row (rx_row rows new.sci new.an) free in
    rw parts.0 (rx_row-push rows new parts.1)

rx_row-push_other : (rows : List RxRow) (new : RxRow) (sci : Sci) (an : ℕ) → is_at sci an new ≡ false → rx_row (rows ++ new ∷ []) sci an ≡ rx_row rows sci an
rx_row-push_other [] new sci an other = rw other refl
rx_row-push_other (row ∷ rows) new sci an other = ap (λ rest. cond (is_at sci an row) (Some row) rest) (rx_row-push_other rows new sci an other)

-- an SA with a free number is appended, and is found there
pub IsIndex-push : (scis : List Sci) (rows : List RxRow) (places : List ℕ) (new : RxRow) → IsIndex scis rows places →
    length rows < max_row_count → length scis ≤ max_channel_count → IsRxRow scis new → rx_row rows new.sci new.an ≡ None →
    IsIndex scis (rows ++ new ∷ []) (set places (slot scis new.sci new.an) (length rows))
IsIndex-push scis rows places new index room few is free = record {
  count = length-set places (slot scis new.sci new.an) (length rows) ∙ index.count;
  finds = λ sci an there small. elim (eqb_tells (slot scis sci an) new_slot) [ inl same ↦ at_new sci an there small same.1 | inr other ↦ kept sci an there small other.1 ];
  within = λ n fits there. elim (eqb_tells n new_slot) [ inl same ↦ subst (λ m. place m < length more) (sym same.1) last | inr other ↦ still n fits other.1 there ];
  free = λ n fits behind. elsewhere n (λ e. omega (arith, e, behind, below)) ∙ index.free n fits behind;
}
  where
    more : List RxRow
    more = rows ++ new ∷ []

    new_slot : ℕ
    new_slot = slot scis new.sci new.an

    place : ℕ → ℕ
    place n = get_or (set places new_slot (length rows)) n 0

    below : new_slot < 4 * length scis
    below = slot_below scis new.sci new.an is.channel is.an

    at_end : place new_slot ≡ length rows
    at_end = get_or-set_same places new_slot (length rows) 0 (omega (arith, below, few, index.count))

    longer : length more ≡ length rows + 1
    longer = length-append rows (new ∷ [])

    elsewhere : (n : ℕ) → (n ≡ new_slot → ⊥) → place n ≡ get_or places n 0
    elsewhere n other = get_or-set_other places new_slot n (length rows) 0 other

    last : place new_slot < length more
    last = omega (arith, at_end, longer)

    at_new : (sci : Sci) (an : ℕ) → has_channel scis sci ≡ true → an < max_association_count → slot scis sci an ≡ new_slot →
        rx_row more sci an ≡ slice_get more (place (slot scis sci an))
    at_new sci an there small e =
        let parts = same_slot (channel_place scis sci) (channel_place scis new.sci) an new.an small is.an e in
        let sci_is : sci ≡ new.sci = one_place scis sci new.sci there is.channel parts.0 in
        ap (λ s. rx_row more s an) sci_is ∙ ap (λ a. rx_row more new.sci a) parts.1 ∙ rx_row-push rows new free ∙ sym (slice_get-push rows new) ∙
        ap (slice_get more) (sym at_end) ∙ ap (λ n. slice_get more (place n)) (sym e)

    kept : (sci : Sci) (an : ℕ) → has_channel scis sci ≡ true → an < max_association_count → (slot scis sci an ≡ new_slot → ⊥) →
        rx_row more sci an ≡ slice_get more (place (slot scis sci an))
    kept sci an there small other =
        let apart : is_at sci an new ≡ false = by_test (is_at sci an new) refl in
        let inside : get_or places (slot scis sci an) 0 ≡ length rows → ⊥ =
        λ e. omega (arith, index.within (slot scis sci an) (omega (arith, slot_below scis sci an there small, few)) (omega (arith, e)), e) in
        rx_row-push_other rows new sci an apart ∙ index.finds sci an there small ∙ sym (slice_get-push_other rows new (get_or places (slot scis sci an) 0) inside) ∙
        ap (slice_get more) (sym (elsewhere (slot scis sci an) other))
      where
        by_test : (b : Bool) → is_at sci an new ≡ b → b ≡ false
        by_test true at =
            let found = place_found sci an new at in
            absurd (other (ap (λ s. slot scis s an) (sym found.0) ∙ ap (λ a. slot scis new.sci a) (sym found.1)))
        by_test false at = refl

    still : (n : ℕ) → n < max_row_count → (n ≡ new_slot → ⊥) → place n < max_row_count → place n < length more
    still n fits other there =
        let same : place n ≡ get_or places n 0 = elsewhere n other in
        omega (arith, same, longer, index.within n fits (omega (arith, same, there)))

-- adding an SC keeps the indexes of the others
channel_place-more : (scis : List Sci) (sci s : Sci) → has_channel scis s ≡ true → channel_place (scis ++ sci ∷ []) s ≡ channel_place scis s
channel_place-more [] sci s there = cc
channel_place-more (first ∷ scis) sci s there = by_test (same_sci first s) (λ e. channel_place-more scis sci s e) there
  where
    by_test : (b : Bool) → (has_channel scis s ≡ true → channel_place (scis ++ sci ∷ []) s ≡ channel_place scis s) → (b || has_channel scis s) ≡ true →
        (if b then 0 else suc (channel_place (scis ++ sci ∷ []) s)) ≡ (if b then 0 else suc (channel_place scis s))
    by_test true later h = refl
    by_test false later h = ap suc (later h)

-- an SC that is added comes after the others
channel_place-last : (scis : List Sci) (sci s : Sci) → has_channel scis s ≡ false → has_channel (scis ++ sci ∷ []) s ≡ true → channel_place (scis ++ sci ∷ []) s ≡ length scis
channel_place-last [] sci s none there = by_test (same_sci sci s) there
  where
    by_test : (b : Bool) → (b || false) ≡ true → (if b then 0 else suc 0) ≡ 0
    by_test true h = refl
    by_test false h = cc
channel_place-last (first ∷ scis) sci s none there = by_test (same_sci first s) (λ n t. channel_place-last scis sci s n t) none there
  where
    by_test : (b : Bool) → (has_channel scis s ≡ false → has_channel (scis ++ sci ∷ []) s ≡ true → channel_place (scis ++ sci ∷ []) s ≡ length scis) →
        (b || has_channel scis s) ≡ false → (b || has_channel (scis ++ sci ∷ []) s) ≡ true → (if b then 0 else suc (channel_place (scis ++ sci ∷ []) s)) ≡ suc (length scis)
    by_test true later n t = cc
    by_test false later n t = ap suc (later n t)

-- adding an SC without SAs keeps the index
pub IsIndex-more_channels : (scis : List Sci) (rows : List RxRow) (places : List ℕ) (sci : Sci) → IsIndex scis rows places → AreRxRows scis rows → length scis < max_channel_count →
    length rows ≤ max_row_count → IsIndex (scis ++ sci ∷ []) rows places
IsIndex-more_channels scis rows places sci index h few fit = record {
  count = index.count;
  finds = λ s an there small. by_test s an (has_channel scis s) refl there small;
  within = index.within;
  free = λ n small behind. index.free n small (omega (arith, behind, length-append scis (sci ∷ [])));
}
  where
    more : List Sci
    more = scis ++ sci ∷ []

    by_test : (s : Sci) (an : ℕ) (b : Bool) → has_channel scis s ≡ b → has_channel more s ≡ true → an < max_association_count →
        rx_row rows s an ≡ slice_get rows (get_or places (slot more s an) 0)
    by_test s an true is there small =
        index.finds s an is small ∙ ap (λ p. slice_get rows (get_or places (4 * p + an) 0)) (sym (channel_place-more scis sci s is))
    by_test s an false is there small =
        let last : channel_place more s ≡ length scis = channel_place-last scis sci s is there in
        let none : get_or places (slot more s an) 0 ≡ max_row_count = index.free (slot more s an) (omega (arith, last, few, small)) (omega (arith, last)) in
        rx_row-no_channel scis rows s an h is ∙ sym (slice_get_past rows (get_or places (slot more s an) 0) (omega (arith, none, fit)))

-- the SA of an SCI and a number is at the index that its entry has, if there is one
pub rx_row-indexed : (scis : List Sci) (rows : List RxRow) (places : List ℕ) (sci : Sci) (an channel s place : ℕ) → IsIndex scis rows places → has_channel scis sci ≡ true →
    an < max_association_count → channel ≡ channel_place scis sci → s ≡ 4 * channel + an → place ≡ get_or places s 0 → rx_row rows sci an ≡ slice_get rows place
rx_row-indexed scis rows places sci an channel s place index there small at slot_is place_is =
    let here : slot scis sci an ≡ s = omega (arith, at, slot_is) in
    index.finds sci an there small ∙ ap (λ n. slice_get rows (get_or places n 0)) here ∙ ap (slice_get rows) (sym place_is)

-- ---- changing the SA at an index

is_at-other : (row old : RxRow) → row.sci ≡ old.sci → row.an ≡ old.an → is_at row.sci row.an old ≡ true
is_at-other row old sci an = subst (λ s. is_at s row.an old ≡ true) (sym sci) (subst (λ n. is_at old.sci n old ≡ true) (sym an) (is_at-own old))

KeepsPlace-one : (row : RxRow) → KeepsPlace (at_place (λ old. row) row.sci row.an)
KeepsPlace-one row = record { sci = λ old. sci_by old (is_at row.sci row.an old) refl; an = λ old. an_by old (is_at row.sci row.an old) refl }
  where
    sci_by : (old : RxRow) (b : Bool) → is_at row.sci row.an old ≡ b → (if b then row else old).sci ≡ old.sci
    sci_by old true at = sym (place_found row.sci row.an old at).0
    sci_by old false at = refl

    an_by : (old : RxRow) (b : Bool) → is_at row.sci row.an old ≡ b → (if b then row else old).an ≡ old.an
    an_by old true at = sym (place_found row.sci row.an old at).1
    an_by old false at = refl

-- the invariants of the SAs and of their index after such a change
pub record ArePut (scis : List Sci) (rows : List RxRow) (places : List ℕ) : Type 0 where
  pub are : AreRxRows scis rows
  pub index : IsIndex scis rows places

pub ArePut-set : (scis : List Sci) (rows : List RxRow) (places : List ℕ) (i : ℕ) (row : RxRow) → AreRxRows scis rows → IsIndex scis rows places →
    IsSomeAnd (slice_get rows i) (λ old. (row.sci ≡ old.sci) × (row.an ≡ old.an)) → IsRxRow scis row → ArePut scis (set rows i row) places
ArePut-set scis rows places i row h index there is = by_old (slice_get rows i) refl there
  where
    by_old : (o : Option RxRow) → slice_get rows i ≡ o → IsSomeAnd o (λ old. (row.sci ≡ old.sci) × (row.an ≡ old.an)) → ArePut scis (set rows i row) places
    by_old None found there = absurd there
    by_old (Some old) found there =
        let there = is_at-other row old there.0 there.1 in
        let same : with_rx (λ old. row) row.sci row.an rows ≡ set rows i row =
        with_rx-set scis (λ old. row) rows row.sci row.an i old h found there in
        subst (λ xs. ArePut scis xs places) same (record {
          are = AreRxRows-map scis _ (KeepsPlace-one row) (IsRxRow-at_place scis (λ old. row) (λ old h. is) row.sci row.an) rows h;
          index = IsIndex-map scis _ (KeepsPlace-one row) rows places index;
        })

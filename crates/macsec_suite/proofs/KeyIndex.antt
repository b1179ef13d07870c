-- The index of a table of keys, and changing the one row that it finds.
use Rattle.std.proofs.{
  Common.{◌≡◌, ℕ, ◌<◌, ◌+◌, Bool, true, false, cond, List, [], ◌∷◌, ◌++◌, map, length, zero, suc, get_or, refl, sym},
  Common.{ap, ◌∙◌, arith, inl, inr, subst, eq-eqb, get_or-set_other, get_or-set_same, length-append, length-set},
  Common.{Option, Some, None, IsSome, option_map, slice_get, ◌==◌, ne_eqb, eqb-true},
  Math.ListN.{replicate, set},
  lemmas.Bool.{eqb-false, Decides.eqb_tells},
  lemmas.List.{get_or-replicate, length-map, length-replicate, map-set, Elements.All-set},
  lemmas.Option.{slice_get-map, slice_get_read, slice_get_within},
}
use Rattle.macsec_suite.{
  proofs.KeyLemmas.{AreKeyRows-with_key, AreStoredKeys, cond_none, number-at_number},
  specs.{
    KeyNumbers.max_key_count,
    KeyRows.{AreKeyRows, InstalledKey, IsKeyRow, at_number, key_row, with_key},
    KeyTables.{HasOwnKey, IsIndex, IsPlace, stored_row},
    declared.key_table.{KeyPlace.KeyPlace, StoredKey.StoredKey},
  },
}

-- ---- the index

-- an index without keys
pub IsIndex-none : (places : List ℕ) → places ≡ replicate max_key_count max_key_count → IsIndex places []
IsIndex-none places free = record {
  covers = ap length free ∙ length-replicate max_key_count max_key_count;
  finds = λ n small. refl;
  within = λ n small there. absurd (omega (arith, ap (λ (all : List ℕ). get_or all n 0) free, get_or-replicate max_key_count n max_key_count 0 small));
}

-- finding the row of a number after a change that keeps numbers
key_row-map : (f : InstalledKey → InstalledKey) → ((row : InstalledKey) → (f row).number ≡ row.number) → (rows : List InstalledKey) (n : ℕ) →
    key_row (map f rows) n ≡ option_map f (key_row rows n)
key_row-map f same [] n = refl
key_row-map f same (row ∷ rows) n =
    by_tests ((f row).number == n) (row.number == n) (key_row (map f rows) n) (key_row rows n) (ap (λ m. m == n) (same row)) (key_row-map f same rows n)
  where
    by_tests : (b c : Bool) (r s : Option InstalledKey) → b ≡ c → r ≡ option_map f s → cond b (Some (f row)) r ≡ option_map f (cond c (Some row) s)
    by_tests true true r s both e = refl
    by_tests true false r s both e = cc
    by_tests false true r s both e = cc
    by_tests false false r s both e = e

-- a change that keeps numbers keeps the index
pub IsIndex-map : (f : InstalledKey → InstalledKey) → ((row : InstalledKey) → (f row).number ≡ row.number) → (places : List ℕ) (rows : List InstalledKey) →
    IsIndex places rows → IsIndex places (map f rows)
IsIndex-map f same places rows index = record {
  covers = index.covers;
  finds = λ n small. key_row-map f same rows n ∙ ap (option_map f) (index.finds n small) ∙ sym (slice_get-map f rows (get_or places n 0));
  within = λ n small there. omega (arith, index.within n small there, length-map rows f);
}

slice_get-push : (rows : List InstalledKey) (new : InstalledKey) → slice_get (rows ++ new ∷ []) (length rows) ≡ Some new
slice_get-push [] new = refl
slice_get-push (row ∷ rows) new = slice_get-push rows new

slice_get-push_other : (rows : List InstalledKey) (new : InstalledKey) (i : ℕ) → (i ≡ length rows → ⊥) → slice_get (rows ++ new ∷ []) i ≡ slice_get rows i
slice_get-push_other [] new zero other = absurd (other refl)
slice_get-push_other [] new (suc i) other = refl
slice_get-push_other (row ∷ rows) new zero other = refl
slice_get-push_other (row ∷ rows) new (suc i) other = slice_get-push_other rows new i (λ e. other (ap suc e))

key_row-push : (rows : List InstalledKey) (new : InstalledKey) → key_row rows new.number ≡ None → key_row (rows ++ new ∷ []) new.number ≡ Some new
key_row-push [] new free = rw (eq-eqb new.number new.number refl) refl
key_row-push (row ∷ rows) new free =
    let parts = cond_none (row.number == new.number) row (key_row rows new.number) free in
    rw parts.0 (key_row-push rows new parts.1)

key_row-push_other : (rows : List InstalledKey) (new : InstalledKey) (n : ℕ) → (new.number == n) ≡ false → key_row (rows ++ new ∷ []) n ≡ key_row rows n
key_row-push_other [] new n other = rw other refl
key_row-push_other (row ∷ rows) new n other = ap (λ rest. cond (row.number == n) (Some row) rest) (key_row-push_other rows new n other)

-- a key with a new number is appended, and is found there
pub IsIndex-push : (places : List ℕ) (rows : List InstalledKey) (new : InstalledKey) → IsIndex places rows → length rows < max_key_count →
    new.number < max_key_count → key_row rows new.number ≡ None → IsIndex (set places new.number (length rows)) (rows ++ new ∷ [])
IsIndex-push places rows new index room small free = record {
  covers = length-set places new.number (length rows) ∙ index.covers;
  finds = λ n fits. elim (eqb_tells n new.number) [ inl same ↦ subst (λ m. key_row more m ≡ slice_get more (place m)) (sym same.1) found | inr other ↦ kept n fits other.1 ];
  within = λ n fits there. elim (eqb_tells n new.number) [ inl same ↦ subst (λ m. place m < length more) (sym same.1) last | inr other ↦ still n fits other.1 there ];
}
  where
    more : List InstalledKey
    more = rows ++ new ∷ []

    place : ℕ → ℕ
    place n = get_or (set places new.number (length rows)) n 0

    at_end : place new.number ≡ length rows
    at_end = get_or-set_same places new.number (length rows) 0 (omega (arith, small, index.covers))

    longer : length more ≡ length rows + 1
    longer = length-append rows (new ∷ [])

    elsewhere : (n : ℕ) → (n ≡ new.number → ⊥) → place n ≡ get_or places n 0
    elsewhere n other = get_or-set_other places new.number n (length rows) 0 other

    found : key_row more new.number ≡ slice_get more (place new.number)
    found = key_row-push rows new free ∙ sym (slice_get-push rows new) ∙ ap (slice_get more) (sym at_end)

    last : place new.number < length more
    last = omega (arith, at_end, longer)

    kept : (n : ℕ) → n < max_key_count → (n ≡ new.number → ⊥) → key_row more n ≡ slice_get more (place n)
    kept n fits other =
        let inside : get_or places n 0 ≡ length rows → ⊥ = λ e. omega (arith, index.within n fits (omega (arith, e)), e) in
        key_row-push_other rows new n (ne_eqb new.number n (λ e. other (sym e))) ∙ index.finds n fits ∙
        sym (slice_get-push_other rows new (get_or places n 0) inside) ∙ ap (slice_get more) (sym (elsewhere n other))

    still : (n : ℕ) → n < max_key_count → (n ≡ new.number → ⊥) → place n < max_key_count → place n < length more
    still n fits other there =
        let same : place n ≡ get_or places n 0 = elsewhere n other in
        omega (arith, same, longer, index.within n fits (omega (arith, same, there)))

-- ---- changing the one row of a number

-- no row has the number: nothing changes
with_key-free : (change : InstalledKey → InstalledKey) (rows : List InstalledKey) (n : ℕ) → key_row rows n ≡ None → with_key change n rows ≡ rows
with_key-free change [] n free = refl
with_key-free change (row ∷ rows) n free =
    let parts = cond_none (row.number == n) row (key_row rows n) free in
    rw parts.0 (ap (λ rest. row ∷ rest) (with_key-free change rows n parts.1))

-- a row's number is not a number that no row has
number-differs : (rows : List InstalledKey) (m i : ℕ) (row : InstalledKey) → key_row rows m ≡ None → slice_get rows i ≡ Some row → (row.number == m) ≡ false
number-differs [] m i row free there = cc
number-differs (first ∷ rows) m zero row free there =
    let parts = cond_none (first.number == m) first (key_row rows m) free in
    let same : first ≡ row = cc in
    rw (sym same) parts.0
number-differs (first ∷ rows) m (suc i) row free there =
    let parts = cond_none (first.number == m) first (key_row rows m) free in
    number-differs rows m i row parts.1 there

-- the one row of a number is changed at its index
pub with_key-set : (change : InstalledKey → InstalledKey) (rows : List InstalledKey) (n i : ℕ) (row : InstalledKey) → AreKeyRows rows →
    slice_get rows i ≡ Some row → row.number ≡ n → with_key change n rows ≡ set rows i (change row)
with_key-set change [] n i row h there is = cc
with_key-set change (first ∷ rows) n zero row h there is =
    let same : first ≡ row = cc in
    let number : first.number ≡ n = ap (λ r. r.number) same ∙ is in
    let changed : at_number change n first ≡ change row = rw (eq-eqb first.number n number) (ap change same) in
    both changed (with_key-free change rows n (subst (λ m. key_row rows m ≡ None) number h.1))
  where
    both : {x y : InstalledKey} {xs ys : List InstalledKey} → x ≡ y → xs ≡ ys → x ∷ xs ≡ y ∷ ys
    both p q = cc
with_key-set change (first ∷ rows) n (suc i) row h there is =
    let differs : (row.number == first.number) ≡ false = number-differs rows first.number i row h.1 there in
    let other : (first.number == n) ≡ false = ne_eqb first.number n (λ e. eqb-false row.number first.number differs (is ∙ sym e)) in
    rw other (ap (λ rest. first ∷ rest) (with_key-set change rows n i row h.2 there is))

-- a row found by a number has that number
pub number_found : (rows : List InstalledKey) (n : ℕ) (row : InstalledKey) → key_row rows n ≡ Some row → row.number ≡ n
number_found [] n row there = cc
number_found (first ∷ rows) n row there = by_test (first.number == n) (key_row rows n) refl there (number_found rows n row)
  where
    by_test : (b : Bool) (r : Option InstalledKey) → (first.number == n) ≡ b → cond b (Some first) r ≡ Some row → (r ≡ Some row → row.number ≡ n) → row.number ≡ n
    by_test true r is e rest =
        let same : first ≡ row = cc in
        sym (ap (λ x. x.number) same) ∙ eqb-true first.number n is
    by_test false r is e rest = rest e

-- the index that was found is one of a key
pub place_within : (keys : List StoredKey) (row : Option InstalledKey) (i : ℕ) → IsSome row → row ≡ slice_get (map stored_row keys) i → i < length keys
place_within keys None i some finds = cc
place_within keys (Some row) i some finds = omega (arith, slice_get_within (map stored_row keys) i row (sym finds), length-map keys stored_row)

-- the key that the index finds is the one of the number
pub found_at : (keys : List StoredKey) (number place : ℕ) (old : StoredKey) → key_row (map stored_row keys) number ≡ slice_get (map stored_row keys) place →
    IsSome (key_row (map stored_row keys) number) → old ≡ get_or keys place old → key_row (map stored_row keys) number ≡ Some (stored_row old)
found_at keys number place old finds some read =
    let within : place < length keys = place_within keys (key_row (map stored_row keys) number) place some finds in
    let there : slice_get keys place ≡ Some old = slice_get_read keys (length keys) place old refl within read in
    finds ∙ slice_get-map stored_row keys place ∙ ap (option_map stored_row) there

-- the keys after the one of a number was changed, and their rows
pub record IsChanged (change : InstalledKey → InstalledKey) (number : ℕ) (places : List ℕ) (old new : List StoredKey) : Type 0 where
  pub rows : map stored_row new ≡ with_key change number (map stored_row old)
  pub are : AreStoredKeys new
  pub index : IsIndex places (map stored_row new)

-- the key that the index finds is changed at its index
pub IsChanged-set : (change : InstalledKey → InstalledKey) → ((row : InstalledKey) → (change row).number ≡ row.number) →
    (number place : ℕ) (places : List ℕ) (keys : List StoredKey) (old new : StoredKey) → AreStoredKeys keys → IsIndex places (map stored_row keys) →
    key_row (map stored_row keys) number ≡ slice_get (map stored_row keys) place → IsSome (key_row (map stored_row keys) number) → old ≡ get_or keys place old →
    stored_row new ≡ change (stored_row old) → (key_row (map stored_row keys) number ≡ Some (stored_row old) → IsKeyRow (stored_row old) → IsKeyRow (change (stored_row old))) →
    (HasOwnKey old.row → HasOwnKey new.row) → IsChanged change number places keys (set keys place new)
IsChanged-set change same number place places keys old new h index finds some read changed keeps prepared =
    let within : place < length keys = place_within keys (key_row (map stored_row keys) number) place some finds in
    let there : slice_get keys place ≡ Some old = slice_get_read keys (length keys) place old refl within read in
    let shown : slice_get (map stored_row keys) place ≡ Some (stored_row old) = slice_get-map stored_row keys place ∙ ap (option_map stored_row) there in
    let has_number : (stored_row old).number ≡ number = number_found (map stored_row keys) number (stored_row old) (finds ∙ shown) in
    let rows : map stored_row (set keys place new) ≡ with_key change number (map stored_row keys) =
    map-set stored_row keys place new ∙ ap (set (map stored_row keys) place) changed ∙
    sym (with_key-set change (map stored_row keys) number place (stored_row old) h.0 shown has_number) in
    let own : HasOwnKey old.row = subst (λ s. HasOwnKey s.row) (sym read) (h.1 place old within) in
    let found : key_row (map stored_row keys) number ≡ Some (stored_row old) = finds ∙ shown in
    record {
      rows = rows;
      are = (
        subst AreKeyRows (sym rows) (AreKeyRows-with_key change same number (map stored_row keys) (λ row there is. kept_as (stored_row old) row (sym found ∙ there) (keeps found) is) h.0),
        All-set (λ s. HasOwnKey s.row) keys place new (prepared own) h.1,
      );
      index = subst (IsIndex places) (sym rows) (IsIndex-map (at_number change number) (number-at_number change same number) places (map stored_row keys) index);
    }
  where
    -- what is kept of the row that was found is kept of each row that is found
    kept_as : (x y : InstalledKey) → Some x ≡ Some y → (IsKeyRow x → IsKeyRow (change x)) → IsKeyRow y → IsKeyRow (change y)
    kept_as x y both kept is = let it : x ≡ y = cc in subst (λ r. IsKeyRow r → IsKeyRow (change r)) it kept is

-- a look-up that finds a row finds one after a change of rows too
some-map : (f : InstalledKey → InstalledKey) (row : Option InstalledKey) → IsSome row → IsSome (option_map f row)
some-map f None some = some
some-map f (Some row) some = refl

-- a change of the rows that keeps numbers keeps the place of a key
pub IsPlace-with_key : (change : InstalledKey → InstalledKey) → ((row : InstalledKey) → (change row).number ≡ row.number) → (number : ℕ) (rows : List InstalledKey) (place : KeyPlace) →
    IsPlace rows place → IsPlace (with_key change number rows) place
IsPlace-with_key change same number rows place is =
    let f : InstalledKey → InstalledKey = at_number change number in
    let found : key_row (map f rows) place.number ≡ option_map f (key_row rows place.number) = key_row-map f (number-at_number change same number) rows place.number in
    record {
      there = subst IsSome (sym found) (some-map f (key_row rows place.number) is.there);
      finds = found ∙ ap (option_map f) is.finds ∙ sym (slice_get-map f rows place.index);
    }

-- a key is replaced by one with the same row
pub same_rows : (keys : List StoredKey) (i : ℕ) (d new : StoredKey) → i < length keys → stored_row new ≡ stored_row (get_or keys i d)
    → map stored_row (set keys i new) ≡ map stored_row keys
same_rows [] i d new within same = refl
same_rows (key ∷ keys) zero d new within same = ap (λ (row : InstalledKey). row ∷ map stored_row keys) same
same_rows (key ∷ keys) (suc i) d new within same = ap (λ (rows : List InstalledKey). stored_row key ∷ rows) (same_rows keys i d new (omega arith) same)

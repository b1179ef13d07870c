-- There is space for an SA whose association number is free. Its SC's index and its number give a position below four
-- times the number of SCs, and no two SAs have the same position.
use Rattle.{
  std.proofs.{
    Common.{◌≡◌, ◌∙◌, ℕ, suc, ◌+◌, ◌*◌, ◌<◌, ◌≤◌, Bool, true, false, cond, ◌||◌, List, [], ◌∷◌, map, length, refl},
    Common.{arith, eqb, sym, ap, inl, inr, Option, Some, None, if◌then◌else◌, ne_eqb, eq-eqb},
    lemmas.{Bool.Decides.eqb_tells, Map.Steps.length-le_from_distinct_below},
  },
  std.specs.List.{IsDistinct, AllByRecursion, list_any},
  macsec_tag.specs.declared.identifiers.Sci.Sci,
  macsec_rx.proofs.Scis.{one_sci, same_sci-refl},
  macsec_rx.specs.{
    Channels.{rx_row, same_sci, is_at},
    Commands.has_channel,
    Index.{channel_place, slot},
    Rows.AreRxRows,
    declared.RxRow.RxRow,
  },
}

pub cond_none : {A : Type 0} (b : Bool) (x : A) (r : Option A) → cond b (Some x) r ≡ None → (b ≡ false) × (r ≡ None)
cond_none true x r h = cc
cond_none false x r h = (refl, h)

place_below : (scis : List Sci) (sci : Sci) → has_channel scis sci ≡ true → channel_place scis sci < length scis
place_below [] sci there = cc
place_below (s ∷ scis) sci there = by_test (same_sci s sci) (λ e. place_below scis sci e) there
  where
    by_test : (b : Bool) → (has_channel scis sci ≡ true → channel_place scis sci < length scis) → (b || has_channel scis sci) ≡ true →
        (if b then 0 else suc (channel_place scis sci)) < suc (length scis)
    by_test true later h = omega arith
    by_test false later h = let rest = later h in omega (arith, rest)

-- SCs with the same index are the same
pub one_place : (scis : List Sci) (s t : Sci) → has_channel scis s ≡ true → has_channel scis t ≡ true → channel_place scis s ≡ channel_place scis t → s ≡ t
one_place [] s t hs ht e = cc
one_place (c ∷ scis) s t hs ht e = by_tests (same_sci c s) (same_sci c t) refl refl hs ht e (λ hs ht e. one_place scis s t hs ht e)
  where
    by_tests : (x y : Bool) → same_sci c s ≡ x → same_sci c t ≡ y → (x || has_channel scis s) ≡ true → (y || has_channel scis t) ≡ true →
        (if x then 0 else suc (channel_place scis s)) ≡ (if y then 0 else suc (channel_place scis t)) →
        (has_channel scis s ≡ true → has_channel scis t ≡ true → channel_place scis s ≡ channel_place scis t → s ≡ t) → s ≡ t
    by_tests true true hx hy hs ht e later = sym (one_sci c s hx) ∙ one_sci c t hy
    by_tests true false hx hy hs ht e later = absurd (omega (arith, e))
    by_tests false true hx hy hs ht e later = absurd (omega (arith, e))
    by_tests false false hx hy hs ht e later = later hs ht (omega (arith, e))

-- the positions of the SAs in the index
abbrev pub slots : List Sci → List RxRow → List ℕ
slots scis rows = map (λ row. slot scis row.sci row.an) rows

pub same_slot : (p q a b : ℕ) → a < 4 → b < 4 → 4 * p + a ≡ 4 * q + b → (p ≡ q) × (a ≡ b)
same_slot p q a b ha hb e = (omega arith, omega arith)

apart : (scis : List Sci) (rows : List RxRow) (sci : Sci) (an : ℕ) → AreRxRows scis rows → has_channel scis sci ≡ true → an < 4 →
    rx_row rows sci an ≡ None → AllByRecursion (λ y. eqb (slot scis sci an) y ≡ false) (slots scis rows)
apart scis [] sci an h there small free = tt
apart scis (row ∷ rows) sci an h there small free =
    let parts = cond_none (is_at sci an row) row (rx_row rows sci an) free in
    (ne_eqb (slot scis sci an) (slot scis row.sci row.an) (λ e. differ parts.0 (same_slot _ _ _ _ small h.0.an e)), apart scis rows sci an h.2 there small parts.1)
  where
    differ : is_at sci an row ≡ false → (channel_place scis sci ≡ channel_place scis row.sci) × (an ≡ row.an) → ⊥
    differ other e =
        let same : row.sci ≡ sci = one_place scis row.sci sci h.0.channel there (sym e.0) in
        let both : is_at sci an row ≡ true = rw (same, same_sci-refl sci, eq-eqb row.an an (sym e.1)) refl in
        let no = sym both ∙ other in cc

distinct : (scis : List Sci) (rows : List RxRow) → AreRxRows scis rows → IsDistinct eqb (slots scis rows)
unfolding IsDistinct
distinct scis [] h = tt
distinct scis (row ∷ rows) h = (apart scis rows row.sci row.an h.2 h.0.channel h.0.an h.1, distinct scis rows h.2)

below_step : (q c n : ℕ) (rest : Bool) → c < n → (rest ≡ true → q < n) → (eqb q c || rest) ≡ true → q < n
below_step q c n rest small later any =
    elim (eqb_tells q c) [ inl t ↦ omega arith | inr f ↦ later (rw f.0 at any) ]

pub slot_below : (scis : List Sci) (sci : Sci) (an : ℕ) → has_channel scis sci ≡ true → an < 4 → slot scis sci an < 4 * length scis
slot_below scis sci an there small = let within = place_below scis sci there in omega (arith, within)

below : (scis : List Sci) (rows : List RxRow) → AreRxRows scis rows → (q : ℕ) → list_any (eqb q) (slots scis rows) ≡ true → q < 4 * length scis
below scis [] h q any = cc
below scis (row ∷ rows) h q any =
    let here = slot_below scis row.sci row.an h.0.channel h.0.an in
    below_step q (slot scis row.sci row.an) (4 * length scis) (list_any (eqb q) (slots scis rows)) here (λ e. below scis rows h.2 q e) any

length-slots : (scis : List Sci) (rows : List RxRow) → length (slots scis rows) ≡ length rows
length-slots scis [] = refl
length-slots scis (row ∷ rows) = ap suc (length-slots scis rows)

pub has_room : (scis : List Sci) (rows : List RxRow) (sci : Sci) (an : ℕ) → AreRxRows scis rows → has_channel scis sci ≡ true → an < 4 →
    rx_row rows sci an ≡ None → length rows < 4 * length scis
unfolding IsDistinct
has_room scis rows sci an h there small free =
    let fits : length (slot scis sci an ∷ slots scis rows) ≤ 4 * length scis =
    length-le_from_distinct_below (slot scis sci an ∷ slots scis rows) (4 * length scis) (apart scis rows sci an h there small free, distinct scis rows h)
    (λ q any. below_step q (slot scis sci an) (4 * length scis) (list_any (eqb q) (slots scis rows)) (slot_below scis sci an there small) (λ e. below scis rows h q e) any) in
    omega (arith, fits, length-slots scis rows)

-- each SC has at most four SAs
pub rows_fit : (scis : List Sci) (rows : List RxRow) → AreRxRows scis rows → length rows ≤ 4 * length scis
rows_fit scis rows h =
    omega (arith, length-le_from_distinct_below (slots scis rows) (4 * length scis) (distinct scis rows h) (λ q any. below scis rows h q any), length-slots scis rows)

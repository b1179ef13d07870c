-- Lemmas on the rows of a transmit SC: their numbers, their space, and finding them.
use Rattle.std.proofs.{
  Common.{◌≡◌, ℕ, suc, ◌<◌, ◌≤◌, ◌+◌, Bool, true, false, cond, List, [], ◌∷◌, ◌++◌, map, length, refl, arith, eqb, sym},
  Common.{ap, ◌||◌, inl, inr, drop, get_or, ◌∙◌, Option, Some, None, is_some, ◌==◌, if◌then◌else◌, ne_eqb, eq-eqb},
  Common.eqb-true,
  lemmas.{Bool.{eqb-false, Decides.eqb_tells}, List.drop_more, Map.Steps.length-le_from_distinct_below},
}
use Rattle.std.specs.List.{IsDistinct, AllByRecursion, list_any}
use Rattle.macsec_tx.specs.{Rows.{AreTxRows, IsTxRow}, Transmit.{tx_row, row_on}, declared.TxRow.TxRow}

-- an SC without SAs has the invariant
pub AreTxRows-nil : AreTxRows []
AreTxRows-nil = tt

-- the association numbers of the rows
abbrev pub numbers_of : List TxRow → List ℕ
numbers_of rows = map (λ row. row.an) rows

-- if nothing is found, neither the first element nor a later one matches
pub none_found : {A : Type 0} (b : Bool) (x : A) (rest : Option A) → cond b (Some x) rest ≡ None → (b ≡ false) × (rest ≡ None)
none_found true x rest none = cc
none_found false x rest none = (refl, none)

-- a number that no row has differs from the number of every row
pub number_is_apart : (rows : List TxRow) (an : ℕ) → tx_row rows an ≡ None → AllByRecursion (λ y. eqb an y ≡ false) (numbers_of rows)
number_is_apart [] an free = tt
number_is_apart (row ∷ rows) an free =
    let parts = none_found (row.an == an) row (tx_row rows an) free in
    (ne_eqb an row.an (λ e. eqb-false row.an an parts.0 (sym e)), number_is_apart rows an parts.1)

-- no two rows have the same number
pub numbers_are_distinct : (rows : List TxRow) → AreTxRows rows → IsDistinct eqb (numbers_of rows)
unfolding IsDistinct
numbers_are_distinct [] h = tt
numbers_are_distinct (row ∷ rows) h = (number_is_apart rows row.an h.1, numbers_are_distinct rows h.2)

-- if the first number and the later ones are below 4, a number among them is
number_below_step : (q an : ℕ) (rest : Bool) → an < 4 → (rest ≡ true → q < 4) → (eqb q an || rest) ≡ true → q < 4
number_below_step q an rest small later any =
    elim (eqb_tells q an) [ inl t ↦ omega arith | inr f ↦ later (rw f.0 at any) ]

-- every row's number is below 4
pub number_is_below : (rows : List TxRow) → AreTxRows rows → (q : ℕ) → list_any (eqb q) (numbers_of rows) ≡ true → q < 4
number_is_below [] h q any = cc
number_is_below (row ∷ rows) h q any =
    number_below_step q row.an (list_any (eqb q) (numbers_of rows)) h.0.an (λ e. number_is_below rows h.2 q e) any

-- there are as many numbers as rows
pub length-numbers_of : (rows : List TxRow) → length (numbers_of rows) ≡ length rows
length-numbers_of [] = refl
length-numbers_of (row ∷ rows) = ap suc (length-numbers_of rows)

-- there is space for an SA with a new number
pub has_room : (rows : List TxRow) (an : ℕ) → AreTxRows rows → tx_row rows an ≡ None → an < 4 → length rows < 4
unfolding IsDistinct
has_room rows an h free small =
    let fits : length (an ∷ numbers_of rows) ≤ 4 = length-le_from_distinct_below (an ∷ numbers_of rows) 4 (number_is_apart rows an free, numbers_are_distinct rows h)
    (λ q any. number_below_step q an (list_any (eqb q) (numbers_of rows)) small (λ e. number_is_below rows h q e) any) in
    omega (arith, length-numbers_of rows)

-- appending a row with another number leaves a number free
tx_row-append_none : (rows : List TxRow) (new : TxRow) (an : ℕ) → tx_row rows an ≡ None → (new.an == an) ≡ false → tx_row (rows ++ new ∷ []) an ≡ None
tx_row-append_none [] new an free other = rw other refl
tx_row-append_none (row ∷ rows) new an free other =
    let parts = none_found (row.an == an) row (tx_row rows an) free in
    rw parts.0 (tx_row-append_none rows new an parts.1 other)

-- appending an SA with a new number keeps the invariant
pub AreTxRows-append : (rows : List TxRow) (new : TxRow) → AreTxRows rows → tx_row rows new.an ≡ None → IsTxRow new → AreTxRows (rows ++ new ∷ [])
AreTxRows-append [] new h free small = (small, refl, tt)
AreTxRows-append (row ∷ rows) new h free small =
    let parts = none_found (row.an == new.an) row (tx_row rows new.an) free in
    (h.0, tx_row-append_none rows new row.an h.1 (ne_eqb new.an row.an (λ e. eqb-false row.an new.an parts.0 (sym e))), AreTxRows-append rows new h.2 parts.1 small)

-- an option that is not `Some` is `None`
pub none_from_is_some : {A : Type 0} (o : Option A) → is_some o ≡ false → o ≡ None
none_from_is_some None h = refl
none_from_is_some (Some x) h = cc

-- the enabled SA is the one found by its number
pub row_on_is_there : (rows : List TxRow) → AreTxRows rows → (row : TxRow) → row_on rows ≡ Some row → tx_row rows row.an ≡ Some row
row_on_is_there [] h row found = cc
row_on_is_there (first ∷ rows) h row found = by_on first.on (row_on_is_there rows h.2 row) found
  where
    by_number : (b : Bool) → (first.an == row.an) ≡ b → tx_row rows row.an ≡ Some row → (if b then Some first else tx_row rows row.an) ≡ Some row
    by_number true same later = absurd (let none : Some row ≡ None = sym later ∙ ap (tx_row rows) (sym (eqb-true first.an row.an same)) ∙ h.1 in cc)
    by_number false differs later = later

    by_on : (b : Bool) → (row_on rows ≡ Some row → tx_row rows row.an ≡ Some row) → (if b then Some first else row_on rows) ≡ Some row → tx_row (first ∷ rows) row.an ≡ Some row
    by_on true later found' = let first_is : first ≡ row = cc in rw (← first_is, eq-eqb first.an first.an refl) refl
    by_on false later found' = by_number (first.an == row.an) refl (later found')

-- an enabled row is the first enabled one of the rows from it on
pub row_on-drop : (rows : List TxRow) (i : ℕ) (row : TxRow) → row ≡ get_or rows i row → i < length rows → row.on ≡ true → row_on (drop i rows) ≡ Some row
row_on-drop rows i row item within on =
    let left : drop i rows ≡ row ∷ drop (i + 1) rows = drop_more rows i row within ∙ ap (λ r. r ∷ drop (i + 1) rows) (sym item) in
    ap row_on left ∙ rw on refl

-- Changes keep the invariant of a transmit SC's rows.
use Rattle.std.proofs.{
  Common.{◌≡◌, ℕ, zero, suc, ◌<◌, Bool, true, false, cond, List, [], ◌∷◌, map, set, length, refl, arith, sym, ap},
  Common.{subst, drop, eq-eqb, ◌∙◌, Some, None, IfSome, ◌==◌, ◌^◌, slice_get, if◌then◌else◌, take_at, eqb-true, ne_eqb},
  lemmas.Bool.eqb-false,
}
use Rattle.std.specs.List.{refill, filter}
use Rattle.macsec_tx.{
  proofs.TxRows.none_found,
  specs.{
    Commands.{off_at, switch_to},
    Rows.{AreTxRows, IsTxRow},
    Transmit.{tx_row, next_used, used_at},
    declared.TxRow.TxRow,
  },
}

-- a change that keeps numbers leaves a free number free
tx_row-map_none : (f : TxRow → TxRow) → ((row : TxRow) → (f row).an ≡ row.an) → (rows : List TxRow) (an : ℕ) → tx_row rows an ≡ None → tx_row (map f rows) an ≡ None
tx_row-map_none f same [] an free = refl
tx_row-map_none f same (row ∷ rows) an free =
    let parts = none_found (row.an == an) row (tx_row rows an) free in
    rw (same row, parts.0) (tx_row-map_none f same rows an parts.1)

-- a change that keeps each row's number and bounds keeps the invariant
pub AreTxRows-map : (f : TxRow → TxRow) → ((row : TxRow) → (f row).an ≡ row.an) → ((row : TxRow) → IsTxRow row → IsTxRow (f row)) →
    (rows : List TxRow) → AreTxRows rows → AreTxRows (map f rows)
AreTxRows-map f same good [] h = tt
AreTxRows-map f same good (row ∷ rows) h =
    (good row h.0, ap (λ an. tx_row (map f rows) an) (same row) ∙ tx_row-map_none f same rows row.an h.1, AreTxRows-map f same good rows h.2)

-- deleting rows leaves a free number free
tx_row-filter_none : (p : TxRow → Bool) (rows : List TxRow) (an : ℕ) → tx_row rows an ≡ None → tx_row (filter p rows) an ≡ None
tx_row-filter_none p [] an free = refl
tx_row-filter_none p (row ∷ rows) an free =
    let parts = none_found (row.an == an) row (tx_row rows an) free in
    by_test (p row) parts.0 (tx_row-filter_none p rows an parts.1)
  where
    by_test : (b : Bool) → (row.an == an) ≡ false → tx_row (filter p rows) an ≡ None → tx_row (cond b (row ∷ filter p rows) (filter p rows)) an ≡ None
    by_test true other rest = rw other rest
    by_test false other rest = rest

-- deleting rows keeps the invariant
pub AreTxRows-filter : (p : TxRow → Bool) (rows : List TxRow) → AreTxRows rows → AreTxRows (filter p rows)
AreTxRows-filter p [] h = tt
AreTxRows-filter p (row ∷ rows) h = by_test (p row) (AreTxRows-filter p rows h.2)
  where
    by_test : (b : Bool) → AreTxRows (filter p rows) → AreTxRows (cond b (row ∷ filter p rows) (filter p rows))
    by_test true rest = (h.0, tx_row-filter_none p rows row.an h.1, rest)
    by_test false rest = rest

-- after a borrow as a slice, the rows are as the borrower left them
pub AreTxRows-refill : (old new : List TxRow) → length new ≡ length old → AreTxRows new → AreTxRows (refill (length old) old new)
AreTxRows-refill old new same h = rw (take_at new (drop (length new) old) (length old) same) h

-- enabling or disabling a row keeps its bounds
pub IsTxRow-switch_to : (an : ℕ) (row : TxRow) → IsTxRow row → IsTxRow (switch_to an row)
IsTxRow-switch_to an row h = record { an = h.an; key = h.key; next_least = h.next_least; next = h.next }

-- disabling the row of a number keeps its bounds
pub IsTxRow-off_at : (an : ℕ) (row : TxRow) → IsTxRow row → IsTxRow (off_at an row)
IsTxRow-off_at an row h = by_test (row.an == an)
  where
    by_test : (b : Bool) → IsTxRow (if b then record row { on = false } else row)
    by_test true = record { an = h.an; key = h.key; next_least = h.next_least; next = h.next }
    by_test false = h

-- disabling keeps the association number
pub an-off_at : (an : ℕ) (row : TxRow) → (off_at an row).an ≡ row.an
an-off_at an row = by_test (row.an == an)
  where
    by_test : (b : Bool) → (if b then record row { on = false } else row).an ≡ row.an
    by_test true = refl
    by_test false = refl

-- using a packet number keeps the association number
an-used_at : (an : ℕ) (row : TxRow) → (used_at an row).an ≡ row.an
an-used_at an row = by_test (row.an == an)
  where
    by_test : (b : Bool) → (if b then next_used row else row).an ≡ row.an
    by_test true = refl
    by_test false = refl

-- the SA with this number has a packet number left; using it keeps the invariant
pub AreTxRows-used_at : (an : ℕ) (rows : List TxRow) → AreTxRows rows → IfSome (tx_row rows an) (λ row. row.next < 2 ^ 64) → AreTxRows (map (used_at an) rows)
AreTxRows-used_at an [] h small = tt
AreTxRows-used_at an (row ∷ rows) h small =
    let free : tx_row (map (used_at an) rows) (used_at an row).an ≡ None =
    ap (λ n. tx_row (map (used_at an) rows) n) (an-used_at an row) ∙ tx_row-map_none (used_at an) (an-used_at an) rows row.an h.1 in
    let parts = by_test (row.an == an) refl small in
    (parts.0, free, AreTxRows-used_at an rows h.2 parts.1)
  where
    by_test : (b : Bool) → (row.an == an) ≡ b → IfSome (if b then Some row else tx_row rows an) (λ row. row.next < 2 ^ 64) →
        IsTxRow (if b then next_used row else row) × IfSome (tx_row rows an) (λ row. row.next < 2 ^ 64)
    by_test true same h' =
        let none : tx_row rows an ≡ None = ap (tx_row rows) (sym (eqb-true row.an an same)) ∙ h.1 in
        (record { an = h.0.an; key = h.0.key; next_least = omega arith; next = omega (arith, h') }, subst (λ o. IfSome o (λ row. row.next < 2 ^ 64)) (sym none) tt)
    by_test false other h' = (h.0, h')

-- ---- using the packet number of the SA at an index

-- no SA has the number: nothing changes
used_at-free : (rows : List TxRow) (an : ℕ) → tx_row rows an ≡ None → map (used_at an) rows ≡ rows
used_at-free [] an free = refl
used_at-free (row ∷ rows) an free =
    let parts = none_found (row.an == an) row (tx_row rows an) free in
    rw parts.0 (ap (λ rest. row ∷ rest) (used_at-free rows an parts.1))

-- an SA's number is not a number that no SA has
number-differs : (rows : List TxRow) (an i : ℕ) (row : TxRow) → tx_row rows an ≡ None → slice_get rows i ≡ Some row → (row.an == an) ≡ false
number-differs [] an i row free there = cc
number-differs (first ∷ rows) an zero row free there =
    let parts = none_found (first.an == an) first (tx_row rows an) free in
    let same : first ≡ row = cc in
    rw (sym same) parts.0
number-differs (first ∷ rows) an (suc i) row free there =
    let parts = none_found (first.an == an) first (tx_row rows an) free in
    number-differs rows an i row parts.1 there

-- the one SA with its number is changed at its index
pub used_at-set : (rows : List TxRow) (i : ℕ) (row : TxRow) → AreTxRows rows → slice_get rows i ≡ Some row → map (used_at row.an) rows ≡ set rows i (next_used row)
used_at-set [] i row h there = cc
used_at-set (first ∷ rows) zero row h there =
    let same : first ≡ row = cc in
    let changed : used_at row.an first ≡ next_used row = rw (eq-eqb first.an row.an (ap (λ r. r.an) same)) (ap next_used same) in
    both changed (used_at-free rows row.an (subst (λ n. tx_row rows n ≡ None) (ap (λ r. r.an) same) h.1))
  where
    both : {x y : TxRow} {xs ys : List TxRow} → x ≡ y → xs ≡ ys → x ∷ xs ≡ y ∷ ys
    both p q = cc
used_at-set (first ∷ rows) (suc i) row h there =
    let differs : (row.an == first.an) ≡ false = number-differs rows first.an i row h.1 there in
    let other : (first.an == row.an) ≡ false = ne_eqb first.an row.an (λ e. eqb-false row.an first.an differs (sym e)) in
    rw other (ap (λ rest. first ∷ rest) (used_at-set rows i row h.2 there))

-- the SA at the index is found by its number
pub tx_row-at : (rows : List TxRow) (i : ℕ) (row : TxRow) → AreTxRows rows → slice_get rows i ≡ Some row → tx_row rows row.an ≡ Some row
tx_row-at [] i row h there = cc
tx_row-at (first ∷ rows) zero row h there =
    let same : first ≡ row = cc in
    rw (eq-eqb first.an row.an (ap (λ r. r.an) same)) (ap Some same)
tx_row-at (first ∷ rows) (suc i) row h there =
    let differs : (row.an == first.an) ≡ false = number-differs rows first.an i row h.1 there in
    let other : (first.an == row.an) ≡ false = ne_eqb first.an row.an (λ e. eqb-false row.an first.an differs (sym e)) in
    rw other (tx_row-at rows i row h.2 there)

-- Commands and sending keep this: the next packet number of each SA was never used under its key, and no two SAs have
-- the same key.
use Rattle.macsec_secy.proofs.{
  Names.{[], ◌++◌, ◌==◌, ◌||◌, ◌∙◌, ◌∷◌, ◌≡◌, ◌≤◌, ◌⊎◌, ap, arith, Bool, eq-eqb, eqb-false, false, filter},
  Names.{first_unused, HasUnusedNext, HaveUnusedNext, if◌then◌else◌, inl, inr, InstalledKey, IsSome, key_row},
  Names.{keys_after, keys_noting, List, map, ne_eqb, next_used, None, not, off_at, Option, or_parts, refl, row_on},
  Names.{rows_after, Some, subst, switch_to, sym, true, tx_uses, TxRow, used_at, with_tx_off, with_tx_on, without_tx},
  Names.ℕ,
  FirstUnused.{first-noting, first-noting_other},
  KeysKept.there_noting,
  NoTwo.{none-filter, none-with},
}

-- ---- other keys

-- the keys stay in the table, with the same first unused packet numbers
pub record KeysStay (keys more : List InstalledKey) : Type 0 where
  pub there : (n : ℕ) → IsSome (key_row keys n) → IsSome (key_row more n)
  pub first : (n : ℕ) → first_unused more n ≡ first_unused keys n

pub with_keys : (keys more : List InstalledKey) → KeysStay keys more → (rows : List TxRow) → HaveUnusedNext keys rows → HaveUnusedNext more rows
with_keys keys more stay [] have = tt
with_keys keys more stay (row ∷ rows) have = (
  record { there = stay.there row.key have.0.there; next = subst (λ m. m ≤ row.next) (sym (stay.first row.key)) have.0.next },
  have.1,
  with_keys keys more stay rows have.2,
)

-- ---- other SAs

-- a change of an SA that keeps its key and its next packet number
pub record KeepsNext (f : TxRow → TxRow) : Type 0 where
  pub key : (row : TxRow) → (f row).key ≡ row.key
  pub next : (row : TxRow) → (f row).next ≡ row.next

uses-map : (f : TxRow → TxRow) → ((row : TxRow) → (f row).key ≡ row.key) → (rows : List TxRow) (key : ℕ) → tx_uses (map f rows) key ≡ tx_uses rows key
uses-map f same [] key = refl
uses-map f same (row ∷ rows) key =
    ap (λ m. (m == key) || tx_uses (map f rows) key) (same row) ∙ ap (λ b. (row.key == key) || b) (uses-map f same rows key)

no_more_uses : (f : TxRow → TxRow) → ((row : TxRow) → (f row).key ≡ row.key) → (row : TxRow) (rows : List TxRow) → tx_uses rows row.key ≡ false →
    tx_uses (map f rows) (f row).key ≡ false
no_more_uses f same row rows apart = ap (λ m. tx_uses (map f rows) m) (same row) ∙ uses-map f same rows row.key ∙ apart

with_rows : (keys : List InstalledKey) (f : TxRow → TxRow) → KeepsNext f → (rows : List TxRow) → HaveUnusedNext keys rows → HaveUnusedNext keys (map f rows)
with_rows keys f same [] have = tt
with_rows keys f same (row ∷ rows) have = (
  record {
    there = subst (λ m. IsSome (key_row keys m)) (sym (same.key row)) have.0.there;
    next = subst (λ m. first_unused keys m ≤ (f row).next) (sym (same.key row)) (subst (λ m. first_unused keys row.key ≤ m) (sym (same.next row)) have.0.next);
  },
  no_more_uses f same.key row rows have.1,
  with_rows keys f same rows have.2,
)

pub with_one_on : (keys : List InstalledKey) (rows : List TxRow) (an : ℕ) → HaveUnusedNext keys rows → HaveUnusedNext keys (with_tx_on rows an)
with_one_on keys rows an have = with_rows keys (switch_to an) (record { key = λ row. refl; next = λ row. refl }) rows have

off_keeps_next : (an : ℕ) → KeepsNext (off_at an)
off_keeps_next an = record { key = λ row. key_of (row.an == an) row; next = λ row. next_of (row.an == an) row }
  where
    key_of : (b : Bool) (row : TxRow) → (if b then record row { on = false } else row).key ≡ row.key
    key_of true row = refl
    key_of false row = refl

    next_of : (b : Bool) (row : TxRow) → (if b then record row { on = false } else row).next ≡ row.next
    next_of true row = refl
    next_of false row = refl

pub with_one_off : (keys : List InstalledKey) (rows : List TxRow) (an : ℕ) → HaveUnusedNext keys rows → HaveUnusedNext keys (with_tx_off rows an)
with_one_off keys rows an have = with_rows keys (off_at an) (off_keeps_next an) rows have

some_left : (keys : List InstalledKey) (p : TxRow → Bool) (rows : List TxRow) → HaveUnusedNext keys rows → HaveUnusedNext keys (filter p rows)
some_left keys p [] have = tt
some_left keys p (row ∷ rows) have = by_test (p row) (none-filter (λ r. r.key == row.key) p rows have.1) (some_left keys p rows have.2)
  where
    by_test : (b : Bool) → tx_uses (filter p rows) row.key ≡ false → HaveUnusedNext keys (filter p rows) → HaveUnusedNext keys (if b then row ∷ filter p rows else filter p rows)
    by_test true apart later = (have.0, apart, later)
    by_test false apart later = later

pub without_one : (keys : List InstalledKey) (rows : List TxRow) (an : ℕ) → HaveUnusedNext keys rows → HaveUnusedNext keys (without_tx rows an)
without_one keys rows an have = some_left keys (λ row. not (row.an == an)) rows have

-- an SA with another key is added
pub with_one_more : (keys : List InstalledKey) (rows : List TxRow) (new : TxRow) → HasUnusedNext keys new → tx_uses rows new.key ≡ false →
    HaveUnusedNext keys rows → HaveUnusedNext keys (rows ++ new ∷ [])
with_one_more keys [] new unused none have = (unused, refl, tt)
with_one_more keys (row ∷ rows) new unused none have =
    let parts = or_parts (row.key == new.key) (tx_uses rows new.key) none in (
      have.0,
      none-with (λ r. r.key == row.key) rows new have.1 (ne_eqb new.key row.key (λ e. eqb-false row.key new.key parts.0 (sym e))),
      with_one_more keys rows new unused parts.1 have.2,
    )

-- ---- an SA sends

used_keeps_key : (an : ℕ) (row : TxRow) → (used_at an row).key ≡ row.key
used_keeps_key an row = by_test (row.an == an)
  where
    by_test : (b : Bool) → (if b then next_used row else row).key ≡ row.key
    by_test true = refl
    by_test false = refl

next_grows : (an : ℕ) (row : TxRow) → row.next ≤ (used_at an row).next
next_grows an row = by_test (row.an == an)
  where
    by_test : (b : Bool) → row.next ≤ (if b then next_used row else row).next
    by_test true = omega arith
    by_test false = omega arith

other_used : (keys : List InstalledKey) (by row : TxRow) → (by.key ≡ row.key → ⊥) → HasUnusedNext keys row → HasUnusedNext (keys_noting keys by.key by.next) (used_at by.an row)
other_used keys by row other unused =
    let same = sym (used_keeps_key by.an row) in
    record {
      there = subst (λ m. IsSome (key_row (keys_noting keys by.key by.next) m)) same (there_noting keys by.key by.next row.key unused.there);
      next = subst (λ m. first_unused (keys_noting keys by.key by.next) m ≤ (used_at by.an row).next) same
          (omega (arith, first-noting_other keys by.key by.next row.key other, unused.next, next_grows by.an row));
    }

own_used : (keys : List InstalledKey) (by : TxRow) → HasUnusedNext keys by → HasUnusedNext (keys_noting keys by.key by.next) (used_at by.an by)
own_used keys by unused =
    subst (λ b. HasUnusedNext (keys_noting keys by.key by.next) (if b then next_used by else by)) (sym (eq-eqb by.an by.an refl))
    (record { there = there_noting keys by.key by.next by.key unused.there; next = omega (arith, first-noting keys by.key by.next unused.there) })

others_used : (keys : List InstalledKey) (by : TxRow) (rows : List TxRow) → tx_uses rows by.key ≡ false → HaveUnusedNext keys rows →
    HaveUnusedNext (keys_noting keys by.key by.next) (map (used_at by.an) rows)
others_used keys by [] none have = tt
others_used keys by (row ∷ rows) none have =
    let parts = or_parts (row.key == by.key) (tx_uses rows by.key) none in (
      other_used keys by row (λ e. eqb-false row.key by.key parts.0 (sym e)) have.0,
      no_more_uses (used_at by.an) (used_keeps_key by.an) row rows have.1,
      others_used keys by rows parts.1 have.2,
    )

-- a key that no SA uses is not the enabled SA's
on_has_other_key : (rows : List TxRow) (by : TxRow) (key : ℕ) → row_on rows ≡ Some by → tx_uses rows key ≡ false → (by.key ≡ key → ⊥)
on_has_other_key [] by key on none = cc
on_has_other_key (row ∷ rows) by key on none =
    let parts = or_parts (row.key == key) (tx_uses rows key) none in
    by_on row.on parts.0 (λ on'. on_has_other_key rows by key on' parts.1) on
  where
    by_on : (b : Bool) → (row.key == key) ≡ false → (row_on rows ≡ Some by → (by.key ≡ key → ⊥)) → (if b then Some row else row_on rows) ≡ Some by → (by.key ≡ key → ⊥)
    by_on true other later on' same = let it : row ≡ by = cc in eqb-false row.key key other (ap (λ r. r.key) it ∙ same)
    by_on false other later on' same = later on' same

pub on_unused : (keys : List InstalledKey) (rows : List TxRow) (by : TxRow) → row_on rows ≡ Some by → HaveUnusedNext keys rows → HasUnusedNext keys by
on_unused keys [] by on have = cc
on_unused keys (row ∷ rows) by on have = by_on row.on (λ on'. on_unused keys rows by on' have.2) on
  where
    by_on : (b : Bool) → (row_on rows ≡ Some by → HasUnusedNext keys by) → (if b then Some row else row_on rows) ≡ Some by → HasUnusedNext keys by
    by_on true later on' = let it : row ≡ by = cc in subst (λ r. HasUnusedNext keys r) it have.0
    by_on false later on' = later on'

-- after the enabled SA has sent, each next packet number is unused
pub after_sending : (keys : List InstalledKey) (rows : List TxRow) (by : TxRow) → row_on rows ≡ Some by → HaveUnusedNext keys rows →
    HaveUnusedNext (keys_noting keys by.key by.next) (map (used_at by.an) rows)
after_sending keys [] by on have = tt
after_sending keys (row ∷ rows) by on have = by_on row.on (λ on'. after_sending keys rows by on' have.2) on
  where
    by_on : (b : Bool) → (row_on rows ≡ Some by → HaveUnusedNext (keys_noting keys by.key by.next) (map (used_at by.an) rows)) →
        (if b then Some row else row_on rows) ≡ Some by → HaveUnusedNext (keys_noting keys by.key by.next) (map (used_at by.an) (row ∷ rows))
    by_on true later on' =
        let it : row ≡ by = cc in
        subst (λ r. HaveUnusedNext (keys_noting keys r.key r.next) (map (used_at r.an) (row ∷ rows))) it
        (own_used keys row have.0, no_more_uses (used_at row.an) (used_keeps_key row.an) row rows have.1, others_used keys row rows have.1 have.2)
    by_on false later on' = (
      other_used keys by row (on_has_other_key rows by row.key on' have.1) have.0,
      no_more_uses (used_at by.an) (used_keeps_key by.an) row rows have.1,
      later on',
    )

-- a client frame is sent, protected by the enabled SA if by any
pub after_frame : (keys : List InstalledKey) (rows : List TxRow) (by : Option TxRow) → (by ≡ None) ⊎ (by ≡ row_on rows) → HaveUnusedNext keys rows →
    HaveUnusedNext (keys_after keys by) (rows_after rows by)
after_frame keys rows None which have = have
after_frame keys rows (Some row) (inl none) have = cc
after_frame keys rows (Some row) (inr on) have = after_sending keys rows row (sym on) have

-- The key of each SA stays in the table, whatever the input.
use Rattle.{
  macsec_tx.specs.Commands.HaveKeys,
  macsec_secy.proofs.Names.{[], ◌++◌, ◌==◌, ◌∙◌, ◌∷◌, ◌≡◌, ap, at_number, Bool, eqb-true, false, first_refusal, IfSome},
  macsec_secy.proofs.Names.{if◌then◌else◌, InstalledKey, is_number_used, IsSome, key_row, keys_after, keys_noting},
  macsec_secy.proofs.Names.{keys_replacing, keys_retiring, List, map, next_used, NoKey, None, not, off_at, Option},
  macsec_secy.proofs.Names.{refl, Refusal, retired_row, row_noting, rows_after, Some, subst, switch_to, sym, true},
  macsec_secy.proofs.Names.{tx_row, tx_sa_refusals, TxRow, used_at, with_bytes, with_tx_off, with_tx_on, with_tx_sa},
  macsec_secy.proofs.Names.{without_tx, ℕ},
}

abbrev pub IsThere : List InstalledKey → ℕ → Type 0
IsThere keys number = IsSome (key_row keys number)

-- the key of this SA, if the SA exists, is in the table
abbrev HasKey : List InstalledKey → Option TxRow → Type 0
HasKey keys row = IfSome row (λ r. IsThere keys r.key)

pub field_kept : {A B : Type 0} (field : A → B) (change : A → A) → ((x : A) → field (change x) ≡ field x) → (test : Bool) (x : A) →
    field (if test then change x else x) ≡ field x
field_kept field change same true x = same x
field_kept field change same false x = refl

-- ---- changes of the keys

-- a key stays in the table when others are added after it
pub there_with_more : (keys more : List InstalledKey) (number : ℕ) → IsThere keys number → IsThere (keys ++ more) number
there_with_more [] more number there = cc
there_with_more (key ∷ keys) more number there = by_test (key.number == number) (there_with_more keys more number) there
  where
    by_test : (test : Bool) → (IsThere keys number → IsThere (keys ++ more) number) →
        IsSome (if test then Some key else key_row keys number) → IsSome (if test then Some key else key_row (keys ++ more) number)
    by_test true later here = refl
    by_test false later here = later here

-- a key stays in the table when keys change but keep their numbers
pub there_after_change : (change : InstalledKey → InstalledKey) → ((key : InstalledKey) → (change key).number ≡ key.number) →
    (keys : List InstalledKey) (number : ℕ) → IsThere keys number → IsThere (map change keys) number
there_after_change change same [] number there = there
there_after_change change same (key ∷ keys) number there =
    subst (λ n. IsSome (if n == number then Some (change key) else key_row (map change keys) number)) (sym (same key))
    (by_test (key.number == number) (there_after_change change same keys number) there)
  where
    by_test : (test : Bool) → (IsThere keys number → IsThere (map change keys) number) →
        IsSome (if test then Some key else key_row keys number) → IsSome (if test then Some (change key) else key_row (map change keys) number)
    by_test true later here = refl
    by_test false later here = later here

-- changing the key with one number keeps every key's number, if the change keeps that key's
pub same_number : (change : InstalledKey → InstalledKey) → ((key : InstalledKey) → (change key).number ≡ key.number) → (number : ℕ) (key : InstalledKey) →
    (at_number change number key).number ≡ key.number
same_number change same number key = field_kept (λ (k : InstalledKey). k.number) change same (key.number == number) key

-- a key stays in the table when a key is retired, gets other octets, or uses a packet number
pub there_retiring : (keys : List InstalledKey) (number other : ℕ) → IsThere keys other → IsThere (keys_retiring keys number) other
there_retiring keys number other there = there_after_change (at_number retired_row number) (same_number retired_row (λ key. refl) number) keys other there

pub there_replacing : (keys : List InstalledKey) (number : ℕ) (bytes : List ℕ) (other : ℕ) → IsThere keys other → IsThere (keys_replacing keys number bytes) other
there_replacing keys number bytes other there =
    there_after_change (at_number (with_bytes bytes) number) (same_number (with_bytes bytes) (λ key. refl) number) keys other there

pub there_noting : (keys : List InstalledKey) (number pn other : ℕ) → IsThere keys other → IsThere (keys_noting keys number pn) other
there_noting keys number pn other there =
    there_after_change (at_number (row_noting pn) number) (same_number (row_noting pn) (λ key. refl) number) keys other there

has_key_where_keys_stay : (keys after : List InstalledKey) (row : Option TxRow) → ((number : ℕ) → IsThere keys number → IsThere after number) →
    HasKey keys row → HasKey after row
has_key_where_keys_stay keys after None stay here = tt
has_key_where_keys_stay keys after (Some row) stay here = stay row.key here

pub with_another_key : (keys : List InstalledKey) (rows : List TxRow) (new : InstalledKey) → HaveKeys keys rows → HaveKeys (keys ++ new ∷ []) rows
with_another_key keys rows new have an =
    has_key_where_keys_stay keys (keys ++ new ∷ []) (tx_row rows an) (there_with_more keys (new ∷ [])) (have an)

pub with_a_key_changed : (change : InstalledKey → InstalledKey) → ((key : InstalledKey) → (change key).number ≡ key.number) →
    (keys : List InstalledKey) (rows : List TxRow) (number : ℕ) → HaveKeys keys rows → HaveKeys (map (at_number change number) keys) rows
with_a_key_changed change same keys rows number have an =
    has_key_where_keys_stay keys (map (at_number change number) keys) (tx_row rows an)
    (there_after_change (at_number change number) (same_number change same number) keys)
    (have an)

pub with_a_key_retired : (keys : List InstalledKey) (rows : List TxRow) (number : ℕ) → HaveKeys keys rows → HaveKeys (keys_retiring keys number) rows
with_a_key_retired keys rows number have = with_a_key_changed retired_row (λ key. refl) keys rows number have

pub with_a_key_replaced : (keys : List InstalledKey) (rows : List TxRow) (number : ℕ) (bytes : List ℕ) → HaveKeys keys rows → HaveKeys (keys_replacing keys number bytes) rows
with_a_key_replaced keys rows number bytes have = with_a_key_changed (with_bytes bytes) (λ key. refl) keys rows number have

with_a_number_used : (keys : List InstalledKey) (rows : List TxRow) (number pn : ℕ) → HaveKeys keys rows → HaveKeys (keys_noting keys number pn) rows
with_a_number_used keys rows number pn have = with_a_key_changed (row_noting pn) (λ key. refl) keys rows number have

-- ---- changes of the SAs

-- a change of SAs that keeps their numbers and their keys
record Keeps (change : TxRow → TxRow) : Type 0 where
  an : (row : TxRow) → (change row).an ≡ row.an
  key : (row : TxRow) → (change row).key ≡ row.key

-- each SA has its key after such a change
with_changed_rows : (keys : List InstalledKey) (change : TxRow → TxRow) → Keeps change → (rows : List TxRow) (an : ℕ) →
    HasKey keys (tx_row rows an) → HasKey keys (tx_row (map change rows) an)
with_changed_rows keys change same [] an here = tt
with_changed_rows keys change same (row ∷ rows) an here =
    subst (λ n. HasKey keys (if n == an then Some (change row) else tx_row (map change rows) an)) (sym (same.an row))
    (by_test (row.an == an) (with_changed_rows keys change same rows an) here)
  where
    by_test : (test : Bool) → (HasKey keys (tx_row rows an) → HasKey keys (tx_row (map change rows) an)) →
        HasKey keys (if test then Some row else tx_row rows an) → HasKey keys (if test then Some (change row) else tx_row (map change rows) an)
    by_test true later here = subst (IsThere keys) (sym (same.key row)) here
    by_test false later here = later here

at_an : (change : TxRow → TxRow) → Keeps change → (an : ℕ) → Keeps (λ row. if row.an == an then change row else row)
at_an change same an = record {
  an = λ row. field_kept (λ (r : TxRow). r.an) change same.an (row.an == an) row;
  key = λ row. field_kept (λ (r : TxRow). r.key) change same.key (row.an == an) row;
}

-- an SA is enabled, and every other one is disabled
pub with_one_on : (keys : List InstalledKey) (rows : List TxRow) (an : ℕ) → HaveKeys keys rows → HaveKeys keys (with_tx_on rows an)
with_one_on keys rows an have n = with_changed_rows keys (switch_to an) (record { an = λ row. refl; key = λ row. refl }) rows n (have n)

pub with_one_off : (keys : List InstalledKey) (rows : List TxRow) (an : ℕ) → HaveKeys keys rows → HaveKeys keys (with_tx_off rows an)
with_one_off keys rows an have n =
    with_changed_rows keys (off_at an) (at_an (λ row. record row { on = false }) (record { an = λ row. refl; key = λ row. refl }) an) rows n (have n)

-- ---- an SA is deleted

-- no SA has the deleted number afterwards
none_left : (rows : List TxRow) (an : ℕ) → tx_row (without_tx rows an) an ≡ None
none_left [] an = refl
none_left (row ∷ rows) an = by_test (row.an == an) refl (none_left rows an)
  where
    by_test : (test : Bool) → (row.an == an) ≡ test → tx_row (without_tx rows an) an ≡ None →
        tx_row (if not test then row ∷ without_tx rows an else without_tx rows an) an ≡ None
    by_test true same later = later
    by_test false differs later = rw differs later

others_left : (rows : List TxRow) (an number : ℕ) → (an == number) ≡ false → tx_row (without_tx rows an) number ≡ tx_row rows number
others_left [] an number differs = refl
others_left (row ∷ rows) an number differs = by_test (row.an == an) refl (others_left rows an number differs)
  where
    by_test : (test : Bool) → (row.an == an) ≡ test → tx_row (without_tx rows an) number ≡ tx_row rows number →
        tx_row (if not test then row ∷ without_tx rows an else without_tx rows an) number ≡ tx_row (row ∷ rows) number
    by_test true same later =
        let other : (row.an == number) ≡ false = ap (λ n. n == number) (eqb-true row.an an same) ∙ differs in
        later ∙ sym (ap (λ b. if b then Some row else tx_row rows number) other)
    by_test false kept later = ap (λ found. if row.an == number then Some row else found) later

pub without_one : (keys : List InstalledKey) (rows : List TxRow) (an : ℕ) → HaveKeys keys rows → HaveKeys keys (without_tx rows an)
without_one keys rows an have number = by_test (an == number) refl
  where
    by_test : (test : Bool) → (an == number) ≡ test → HasKey keys (tx_row (without_tx rows an) number)
    by_test true same =
        let none : tx_row (without_tx rows an) number ≡ None = ap (tx_row (without_tx rows an)) (sym (eqb-true an number same)) ∙ none_left rows an in
        subst (HasKey keys) (sym none) tt
    by_test false differs = subst (HasKey keys) (sym (others_left rows an number differs)) (have number)

-- ---- an SA is created

-- an SA whose key is in the table is added after the others
with_row : (keys : List InstalledKey) (rows : List TxRow) (new : TxRow) (number : ℕ) → IsThere keys new.key →
    HasKey keys (tx_row rows number) → HasKey keys (tx_row (rows ++ new ∷ []) number)
with_row keys [] new number there here = by_test (new.an == number)
  where
    by_test : (test : Bool) → HasKey keys (if test then Some new else None)
    by_test true = there
    by_test false = tt
with_row keys (row ∷ rows) new number there here = by_test (row.an == number) (with_row keys rows new number there) here
  where
    by_test : (test : Bool) → (HasKey keys (tx_row rows number) → HasKey keys (tx_row (rows ++ new ∷ []) number)) →
        HasKey keys (if test then Some row else tx_row rows number) → HasKey keys (if test then Some row else tx_row (rows ++ new ∷ []) number)
    by_test true later here = here
    by_test false later here = later here

-- nothing is refused, so the condition of the first refusal is false
pub not_refused : (holds : Bool) (refusal : Refusal) (later : Option Refusal) → (if not holds then Some refusal else later) ≡ None → holds ≡ true
not_refused true refusal later none = refl
not_refused false refusal later none = cc

pub with_one_more : (keys : List InstalledKey) (rows : List TxRow) (an key next : ℕ) (conf : Bool) →
    first_refusal (tx_sa_refusals keys rows an key next) ≡ None → HaveKeys keys rows → HaveKeys keys (with_tx_sa rows an key next conf)
with_one_more keys rows an key next conf none have number =
    with_row keys rows (record { an = an; key = key; next = next; conf = conf; on = false }) number
    (not_refused (is_number_used keys key) NoKey _ none) (have number)

-- ---- a frame

-- a client frame is sent, protected by an SA or not
pub after_sending : (keys : List InstalledKey) (rows : List TxRow) (by : Option TxRow) → HaveKeys keys rows → HaveKeys (keys_after keys by) (rows_after rows by)
after_sending keys rows None have = have
after_sending keys rows (Some row) have =
    with_a_number_used keys (rows_after rows (Some row)) row.key row.next
    (λ n. with_changed_rows keys (used_at row.an) (at_an next_used (record { an = λ r. refl; key = λ r. refl }) row.an) rows n (have n))

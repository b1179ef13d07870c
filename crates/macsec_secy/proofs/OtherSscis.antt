-- If packet numbers are extended, no receive SA has its key's own SSCI, whatever the input.
use Rattle.std.specs.List.{All}
use Rattle.macsec_rx.specs.Judge.{rows_after}
use Rattle.macsec_secy.proofs.{
  Names.{[], ◌++◌, ◌==◌, ◌∷◌, ◌≡◌, accepted_number, All-append, All-cons, All-map, All-nil, All-weaker, at_number},
  Names.{at_place, Bool, Channels, channels_narrowed, false, first_refusal, HasOtherSsci, InstalledKey, is_at},
  Names.{is_number_used, Judgement, keys_after, keys_replacing, keys_retiring, List, map, NoKey, None, Option, refl},
  Names.{retired_row, row_accepting, row_narrowed, row_noting, row_raised, row_switched, rows_accepting},
  Names.{rx_sa_refusals, RxRow, Sci, Some, the_key, TxRow, with_bytes, with_rx, with_rx_low, with_rx_on, with_rx_sa, ℕ},
  AfterCommands.none_hold,
  KeysKept.{field_kept, not_refused, same_number, there_after_change, there_with_more},
  SameKey.{field_of_the_key, same_with_more},
}

abbrev pub HaveOtherSscis : List InstalledKey → List RxRow → Type 0
HaveOtherSscis keys rows = All (λ row. HasOtherSsci keys row) rows

-- ---- changes of the keys

pub with_another_key : (keys : List InstalledKey) (rows : List RxRow) (new : InstalledKey) → HaveOtherSscis keys rows → HaveOtherSscis (keys ++ new ∷ []) rows
with_another_key keys rows new have = All-weaker (HasOtherSsci keys) (HasOtherSsci (keys ++ new ∷ [])) still rows have
  where
    still : (row : RxRow) → HasOtherSsci keys row → HasOtherSsci (keys ++ new ∷ []) row
    still row has = record {
      there = there_with_more keys (new ∷ []) row.key has.there;
      other = rw (same_with_more keys (new ∷ []) row.key has.there) has.other;
    }

-- the key with one number changes, and keeps its number, suite and SSCI
record KeepsSsci (change : InstalledKey → InstalledKey) : Type 0 where
  number : (key : InstalledKey) → (change key).number ≡ key.number
  suite : (key : InstalledKey) → (change key).suite ≡ key.suite
  ssci : (key : InstalledKey) → (change key).ssci ≡ key.ssci

one_key_changed : (change : InstalledKey → InstalledKey) → KeepsSsci change → (number : ℕ) (keys : List InstalledKey) (rows : List RxRow) →
    HaveOtherSscis keys rows → HaveOtherSscis (map (at_number change number) keys) rows
one_key_changed change same number keys rows have = All-weaker (HasOtherSsci keys) (HasOtherSsci (map (at_number change number) keys)) still rows have
  where
    numbers : (key : InstalledKey) → (at_number change number key).number ≡ key.number
    numbers = same_number change same.number number

    suite : (n : ℕ) → (the_key (map (at_number change number) keys) n).suite ≡ (the_key keys n).suite
    suite n = field_of_the_key (λ (k : InstalledKey). k.suite) (at_number change number) numbers
        (λ key. field_kept (λ (k : InstalledKey). k.suite) change same.suite (key.number == number) key) keys n

    ssci : (n : ℕ) → (the_key (map (at_number change number) keys) n).ssci ≡ (the_key keys n).ssci
    ssci n = field_of_the_key (λ (k : InstalledKey). k.ssci) (at_number change number) numbers
        (λ key. field_kept (λ (k : InstalledKey). k.ssci) change same.ssci (key.number == number) key) keys n

    still : (row : RxRow) → HasOtherSsci keys row → HasOtherSsci (map (at_number change number) keys) row
    still row has = record {
      there = there_after_change (at_number change number) numbers keys row.key has.there;
      other = rw (suite row.key, ssci row.key) has.other;
    }

pub with_a_key_retired : (keys : List InstalledKey) (rows : List RxRow) (number : ℕ) → HaveOtherSscis keys rows → HaveOtherSscis (keys_retiring keys number) rows
with_a_key_retired keys rows number have =
    one_key_changed retired_row (record { number = λ key. refl; suite = λ key. refl; ssci = λ key. refl }) number keys rows have

pub with_a_key_replaced : (keys : List InstalledKey) (rows : List RxRow) (number : ℕ) (bytes : List ℕ) → HaveOtherSscis keys rows → HaveOtherSscis (keys_replacing keys number bytes) rows
with_a_key_replaced keys rows number bytes have =
    one_key_changed (with_bytes bytes) (record { number = λ key. refl; suite = λ key. refl; ssci = λ key. refl }) number keys rows have

pub after_sending : (keys : List InstalledKey) (rows : List RxRow) (by : Option TxRow) → HaveOtherSscis keys rows → HaveOtherSscis (keys_after keys by) rows
after_sending keys rows None have = have
after_sending keys rows (Some row) have =
    one_key_changed (row_noting row.next) (record { number = λ key. refl; suite = λ key. refl; ssci = λ key. refl }) row.key keys rows have

-- ---- changes of the SAs

-- a change of an SA that keeps its key and its SSCI
record KeepsKey (f : RxRow → RxRow) : Type 0 where
  key : (row : RxRow) → (f row).key ≡ row.key
  ssci : (row : RxRow) → (f row).ssci ≡ row.ssci

rows_changed : (keys : List InstalledKey) (f : RxRow → RxRow) → KeepsKey f → (rows : List RxRow) → HaveOtherSscis keys rows → HaveOtherSscis keys (map f rows)
rows_changed keys f same rows have = All-map (HasOtherSsci keys) f rows (All-weaker (HasOtherSsci keys) (λ row. HasOtherSsci keys (f row)) still rows have)
  where
    still : (row : RxRow) → HasOtherSsci keys row → HasOtherSsci keys (f row)
    still row has = record { there = rw (same.key row) has.there; other = rw (same.key row, same.ssci row) has.other }

one_row_changed : (keys : List InstalledKey) (f : RxRow → RxRow) → KeepsKey f → (sci : Sci) (an : ℕ) (rows : List RxRow) → HaveOtherSscis keys rows →
    HaveOtherSscis keys (with_rx f sci an rows)
one_row_changed keys f same sci an rows have =
    rows_changed keys (at_place f sci an) (record {
      key = λ row. field_kept (λ (r : RxRow). r.key) f same.key (is_at sci an row) row;
      ssci = λ row. field_kept (λ (r : RxRow). r.ssci) f same.ssci (is_at sci an row) row;
    }) rows have

pub with_one_switched : (keys : List InstalledKey) (channels : Channels) (sci : Sci) (an : ℕ) (on : Bool) → HaveOtherSscis keys channels.rows →
    HaveOtherSscis keys (with_rx_on channels sci an on).rows
with_one_switched keys channels sci an on have = one_row_changed keys (row_switched on) (record { key = λ row. refl; ssci = λ row. refl }) sci an channels.rows have

pub with_one_raised : (keys : List InstalledKey) (channels : Channels) (sci : Sci) (an pn : ℕ) → HaveOtherSscis keys channels.rows →
    HaveOtherSscis keys (with_rx_low channels sci an pn).rows
with_one_raised keys channels sci an pn have = one_row_changed keys (row_raised pn) (record { key = λ row. refl; ssci = λ row. refl }) sci an channels.rows have

pub with_all_narrowed : (keys : List InstalledKey) (channels : Channels) (window : ℕ) → HaveOtherSscis keys channels.rows →
    HaveOtherSscis keys (channels_narrowed channels window).rows
with_all_narrowed keys channels window have = rows_changed keys (row_narrowed window) (record { key = λ row. refl; ssci = λ row. refl }) channels.rows have

pub with_one_more : (keys : List InstalledKey) (channels : Channels) (sci : Sci) (an key ssci lowest : ℕ) →
    first_refusal (rx_sa_refusals keys channels sci an key ssci lowest) ≡ None → HaveOtherSscis keys channels.rows →
    HaveOtherSscis keys (with_rx_sa channels sci an key ssci lowest).rows
with_one_more keys channels sci an key ssci lowest e have =
    let new : RxRow = record { sci = sci; an = an; key = key; ssci = ssci; next = lowest; lowest = lowest; on = false } in
    let none = none_hold (rx_sa_refusals keys channels sci an key ssci lowest) e in
    let has : HasOtherSsci keys new = record { there = not_refused (is_number_used keys key) NoKey _ e; other = none.1.1.1.1.1.0 } in
    All-append (HasOtherSsci keys) channels.rows (new ∷ []) have (All-cons (HasOtherSsci keys) new [] has (All-nil (HasOtherSsci keys)))

pub after_receiving : (keys : List InstalledKey) (window : ℕ) (j : Judgement) (rows : List RxRow) → HaveOtherSscis keys rows → HaveOtherSscis keys (rows_after window j rows)
after_receiving keys window j rows have = by_parts (accepted_number j) j.row
  where
    by_parts : (number : Option ℕ) (row : Option RxRow) → HaveOtherSscis keys (rows_accepting window number row rows)
    by_parts None row = have
    by_parts (Some number) None = have
    by_parts (Some number) (Some row) = one_row_changed keys (row_accepting window number) (record { key = λ r. refl; ssci = λ r. refl }) row.sci row.an rows have

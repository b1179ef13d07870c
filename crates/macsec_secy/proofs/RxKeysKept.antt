-- The key of each receive SA stays in the table, whatever the input.
use Rattle.macsec_rx.specs.{Commands.{HaveRxKeys, without_channel, without_rx}, Judge.rows_after}
use Rattle.macsec_secy.proofs.{
  Names.{[], ◌++◌, ◌∷◌, ◌≡◌, accepted_number, All-append, All-cons, All-filter, All-head, All-nil, All-tail},
  Names.{All-weaker, at_place, Bool, Channels, channels_narrowed, false, first_refusal, InstalledKey, is_at},
  Names.{is_number_used, Judgement, keys_after, keys_noting, keys_replacing, keys_retiring, List, map, NoKey, None},
  Names.{not, Option, refl, row_accepting, row_narrowed, row_raised, row_switched, rows_accepting, rx_sa_refusals},
  Names.{RxRow, same_sci, Sci, Some, subst, sym, TxRow, with_rx, with_rx_low, with_rx_on, with_rx_sa, ℕ},
  KeysKept.{IsThere, field_kept, not_refused, there_noting, there_replacing, there_retiring, there_with_more},
}

abbrev KeyIsThere : List InstalledKey → RxRow → Type 0
KeyIsThere keys row = IsThere keys row.key

-- ---- changes of the keys

pub with_another_key : (keys : List InstalledKey) (rows : List RxRow) (new : InstalledKey) → HaveRxKeys keys rows → HaveRxKeys (keys ++ new ∷ []) rows
with_another_key keys rows new have =
    All-weaker (KeyIsThere keys) (KeyIsThere (keys ++ new ∷ [])) (λ row there. there_with_more keys (new ∷ []) row.key there) rows have

pub with_a_key_retired : (keys : List InstalledKey) (rows : List RxRow) (number : ℕ) → HaveRxKeys keys rows → HaveRxKeys (keys_retiring keys number) rows
with_a_key_retired keys rows number have =
    All-weaker (KeyIsThere keys) (KeyIsThere (keys_retiring keys number)) (λ row there. there_retiring keys number row.key there) rows have

pub with_a_key_replaced : (keys : List InstalledKey) (rows : List RxRow) (number : ℕ) (bytes : List ℕ) → HaveRxKeys keys rows → HaveRxKeys (keys_replacing keys number bytes) rows
with_a_key_replaced keys rows number bytes have =
    All-weaker (KeyIsThere keys) (KeyIsThere (keys_replacing keys number bytes)) (λ row there. there_replacing keys number bytes row.key there) rows have

pub after_sending : (keys : List InstalledKey) (rows : List RxRow) (by : Option TxRow) → HaveRxKeys keys rows → HaveRxKeys (keys_after keys by) rows
after_sending keys rows None have = have
after_sending keys rows (Some row) have =
    All-weaker (KeyIsThere keys) (KeyIsThere (keys_noting keys row.key row.next)) (λ r there. there_noting keys row.key row.next r.key there) rows have

-- ---- changes of the SAs

-- each SA has its key after a change that keeps its key
with_changed_rows : (keys : List InstalledKey) (change : RxRow → RxRow) → ((row : RxRow) → (change row).key ≡ row.key) → (rows : List RxRow) →
    HaveRxKeys keys rows → HaveRxKeys keys (map change rows)
with_changed_rows keys change same [] have = All-nil (KeyIsThere keys)
with_changed_rows keys change same (row ∷ rows) have =
    All-cons (KeyIsThere keys) (change row) (map change rows)
    (subst (IsThere keys) (sym (same row)) (All-head (KeyIsThere keys) row rows have))
    (with_changed_rows keys change same rows (All-tail (KeyIsThere keys) row rows have))

-- each SA has its key after one SA changes and keeps its key
with_one_changed : (keys : List InstalledKey) (change : RxRow → RxRow) → ((row : RxRow) → (change row).key ≡ row.key) → (sci : Sci) (an : ℕ) (rows : List RxRow) →
    HaveRxKeys keys rows → HaveRxKeys keys (with_rx change sci an rows)
with_one_changed keys change same sci an rows have =
    with_changed_rows keys (at_place change sci an) (λ row. field_kept (λ (r : RxRow). r.key) change same (is_at sci an row) row) rows have

pub with_one_switched : (keys : List InstalledKey) (channels : Channels) (sci : Sci) (an : ℕ) (on : Bool) → HaveRxKeys keys channels.rows →
    HaveRxKeys keys (with_rx_on channels sci an on).rows
with_one_switched keys channels sci an on have = with_one_changed keys (row_switched on) (λ row. refl) sci an channels.rows have

pub with_one_raised : (keys : List InstalledKey) (channels : Channels) (sci : Sci) (an pn : ℕ) → HaveRxKeys keys channels.rows →
    HaveRxKeys keys (with_rx_low channels sci an pn).rows
with_one_raised keys channels sci an pn have = with_one_changed keys (row_raised pn) (λ row. refl) sci an channels.rows have

pub with_all_narrowed : (keys : List InstalledKey) (channels : Channels) (window : ℕ) → HaveRxKeys keys channels.rows →
    HaveRxKeys keys (channels_narrowed channels window).rows
with_all_narrowed keys channels window have = with_changed_rows keys (row_narrowed window) (λ row. refl) channels.rows have

pub without_one : (keys : List InstalledKey) (channels : Channels) (sci : Sci) (an : ℕ) → HaveRxKeys keys channels.rows →
    HaveRxKeys keys (without_rx channels sci an).rows
without_one keys channels sci an have = All-filter (λ row. not (is_at sci an row)) (KeyIsThere keys) channels.rows have

pub without_channel_of : (keys : List InstalledKey) (channels : Channels) (sci : Sci) → HaveRxKeys keys channels.rows →
    HaveRxKeys keys (without_channel channels sci).rows
without_channel_of keys channels sci have = All-filter (λ row. not (same_sci row.sci sci)) (KeyIsThere keys) channels.rows have

pub with_one_more : (keys : List InstalledKey) (channels : Channels) (sci : Sci) (an key ssci lowest : ℕ) →
    first_refusal (rx_sa_refusals keys channels sci an key ssci lowest) ≡ None → HaveRxKeys keys channels.rows →
    HaveRxKeys keys (with_rx_sa channels sci an key ssci lowest).rows
with_one_more keys channels sci an key ssci lowest none have =
    let new : RxRow = record { sci = sci; an = an; key = key; ssci = ssci; next = lowest; lowest = lowest; on = false } in
    All-append (KeyIsThere keys) channels.rows (new ∷ []) have
    (All-cons (KeyIsThere keys) new [] (not_refused (is_number_used keys key) NoKey _ none) (All-nil (KeyIsThere keys)))

pub after_receiving : (keys : List InstalledKey) (window : ℕ) (j : Judgement) (rows : List RxRow) → HaveRxKeys keys rows → HaveRxKeys keys (rows_after window j rows)
after_receiving keys window j rows have = by_parts (accepted_number j) j.row
  where
    by_parts : (number : Option ℕ) (row : Option RxRow) → HaveRxKeys keys (rows_accepting window number row rows)
    by_parts None row = have
    by_parts (Some number) None = have
    by_parts (Some number) (Some row) = with_one_changed keys (row_accepting window number) (λ r. refl) row.sci row.an rows have

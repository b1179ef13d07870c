-- Whatever the input, no two receive SAs of an SC have the same number, and the next packet number of each exceeds its
-- lowest acceptable one by at most the replay window.
use Rattle.std.{proofs.lemmas.Bool.false_from_ne_true, specs.List.{All, slice_index_or}}
use Rattle.macsec_rx.specs.{Commands.rx_low_refusals, Judge.rows_after}
use Rattle.macsec_secy.proofs.{
  Names.{[], ◌+◌, ◌==◌, ◌∙◌, ◌∷◌, ◌≡◌, ◌≤◌, accepted_number, All-append, All-cons, All-filter, All-map, All-nil},
  Names.{All-weaker, and_parts, arith, at_place, Bool, Channels, channels_narrowed, eqb-true, false, filter},
  Names.{first_refusal, holds_of, if◌then◌else◌, InstalledKey, is_at, is_below_lowest, Judgement, List, list_any},
  Names.{ltb-false, map, nat_lt, None, NoTwo, Option, or_parts, refl, row_accepting, row_narrowed, row_raised},
  Names.{row_switched, rows_accepting, rx_row, rx_sa_refusals, RxRow, same_place, same_sci, Sci, Some, sym, true},
  Names.{with_rx, with_rx_low, with_rx_on, with_rx_sa, ℕ},
  AfterCommands.none_hold,
  NoTwo.{no_two-filter, no_two-map, no_two-with, none_found},
  RxRowsStay.{KeepsPlace, accepts, at_one_place, narrows, raises, switches},
  Sums.one_sci,
}

-- the next packet number exceeds the lowest acceptable one by at most the window
abbrev pub IsWithin : ℕ → RxRow → Type 0
IsWithin window row = row.next ≤ row.lowest + window

pub record RxRowsAgree (window : ℕ) (rows : List RxRow) : Type 0 where
  pub places : NoTwo same_place rows
  pub within : All (IsWithin window) rows

places_kept : (f : RxRow → RxRow) → KeepsPlace f → (rows : List RxRow) → NoTwo same_place rows → NoTwo same_place (map f rows)
places_kept f same rows apart =
    no_two-map f same_place same_place (λ a b differs. rw (same.sci a, same.sci b, same.an a, same.an b) differs) rows apart

one_place_kept : (f : RxRow → RxRow) → KeepsPlace f → (sci : Sci) (an : ℕ) (rows : List RxRow) → NoTwo same_place rows → NoTwo same_place (with_rx f sci an rows)
one_place_kept f same sci an rows apart = places_kept (at_place f sci an) (at_one_place f same sci an) rows apart

-- if the changed SA is within the window, so is each SA afterwards
one_within : (window : ℕ) (f : RxRow → RxRow) (sci : Sci) (an : ℕ) (row : RxRow) → (is_at sci an row ≡ true → IsWithin window (f row)) → IsWithin window row →
    IsWithin window (at_place f sci an row)
one_within window f sci an row good within = by_test (is_at sci an row) refl
  where
    by_test : (b : Bool) → is_at sci an row ≡ b → IsWithin window (if b then f row else row)
    by_test true here = good here
    by_test false elsewhere = within

within_after : (window : ℕ) (f : RxRow → RxRow) → ((row : RxRow) → IsWithin window row → IsWithin window (f row)) → (rows : List RxRow) →
    All (IsWithin window) rows → All (IsWithin window) (map f rows)
within_after window f good rows within = All-map (IsWithin window) f rows (All-weaker (IsWithin window) (λ row. IsWithin window (f row)) good rows within)

-- ---- commands

-- every SA is narrowed to a new window
pub with_all_narrowed : (channels : Channels) (old window : ℕ) → RxRowsAgree old channels.rows → RxRowsAgree window (channels_narrowed channels window).rows
with_all_narrowed channels old window agree = record {
  places = places_kept (row_narrowed window) (narrows window) channels.rows agree.places;
  within = All-map (IsWithin window) (row_narrowed window) channels.rows
      (All-weaker (IsWithin old) (λ row. IsWithin window (row_narrowed window row)) (λ row h. omega arith) channels.rows agree.within);
}

pub with_one_more : (keys : List InstalledKey) (channels : Channels) (window : ℕ) (sci : Sci) (an key ssci lowest : ℕ) →
    first_refusal (rx_sa_refusals keys channels sci an key ssci lowest) ≡ None → RxRowsAgree window channels.rows →
    RxRowsAgree window (with_rx_sa channels sci an key ssci lowest).rows
with_one_more keys channels window sci an key ssci lowest e agree =
    let none = none_hold (rx_sa_refusals keys channels sci an key ssci lowest) e in
    let new : RxRow = record { sci = sci; an = an; key = key; ssci = ssci; next = lowest; lowest = lowest; on = false } in
    let fits : lowest ≤ lowest + window = omega arith in
    record {
      places = no_two-with same_place channels.rows new (none_found (λ row. is_at sci an row) channels.rows none.1.1.1.0) agree.places;
      within = All-append (IsWithin window) channels.rows (new ∷ []) agree.within (All-cons (IsWithin window) new [] fits (All-nil (IsWithin window)));
    }

pub with_one_switched : (channels : Channels) (window : ℕ) (sci : Sci) (an : ℕ) (on : Bool) → RxRowsAgree window channels.rows →
    RxRowsAgree window (with_rx_on channels sci an on).rows
with_one_switched channels window sci an on agree = record {
  places = one_place_kept (row_switched on) (switches on) sci an channels.rows agree.places;
  within = within_after window (at_place (row_switched on) sci an) still channels.rows agree.within;
}
  where
    still : (row : RxRow) → IsWithin window row → IsWithin window (at_place (row_switched on) sci an row)
    still row within = one_within window (row_switched on) sci an row (λ here. within) within

pub some_left : (keep : RxRow → Bool) (window : ℕ) (rows : List RxRow) → RxRowsAgree window rows → RxRowsAgree window (filter keep rows)
some_left keep window rows agree = record {
  places = no_two-filter keep same_place rows agree.places;
  within = All-filter keep (IsWithin window) rows agree.within;
}

-- ---- raising

-- if one SA has this SC and number, no other one has them
others_elsewhere : (sci : Sci) (an : ℕ) (row : RxRow) → is_at sci an row ≡ true → (others : List RxRow) → list_any (same_place row) others ≡ false →
    All (λ r. is_at sci an r ≡ false) others
others_elsewhere sci an row here [] none = All-nil (λ r. is_at sci an r ≡ false)
others_elsewhere sci an row here (other ∷ others) none =
    let parts = or_parts (same_place row other) (list_any (same_place row) others) none in
    All-cons (λ r. is_at sci an r ≡ false) other others (false_from_ne_true (is_at sci an other) (differs parts.0)) (others_elsewhere sci an row here others parts.1)
  where
    differs : same_place row other ≡ false → is_at sci an other ≡ true → ⊥
    differs apart there =
        let parts = and_parts (same_sci other.sci sci) (other.an == an) there in
        let same : same_place row other ≡ true = rw (one_sci other.sci sci parts.0, eqb-true other.an an parts.1) here in
        let no = sym same ∙ apart in
        cc

-- the packet number is not below the lowest acceptable one of the SA with this SC and number
abbrev pub IsNotBelow : Sci → ℕ → ℕ → RxRow → Type 0
IsNotBelow sci an pn row = is_at sci an row ≡ true → row.lowest ≤ pn

pub none_below : (sci : Sci) (an pn : ℕ) (rows : List RxRow) → NoTwo same_place rows → is_below_lowest rows sci an pn ≡ false → All (IsNotBelow sci an pn) rows
none_below sci an pn [] apart not_below = All-nil (IsNotBelow sci an pn)
none_below sci an pn (row ∷ rows) apart not_below = by_test (is_at sci an row) refl (none_below sci an pn rows apart.1) not_below
  where
    by_test : (b : Bool) → is_at sci an row ≡ b → (is_below_lowest rows sci an pn ≡ false → All (IsNotBelow sci an pn) rows) →
        holds_of (λ r. nat_lt pn r.lowest) (if b then Some row else rx_row rows sci an) ≡ false → All (IsNotBelow sci an pn) (row ∷ rows)
    by_test true here later fails =
        All-cons (IsNotBelow sci an pn) row rows (λ h. ltb-false pn row.lowest fails)
        (All-weaker (λ r. is_at sci an r ≡ false) (IsNotBelow sci an pn) (λ r elsewhere there. cc) rows (others_elsewhere sci an row here rows apart.0))
    by_test false elsewhere later fails =
        All-cons (IsNotBelow sci an pn) row rows (λ here. cc) (later fails)

pub with_one_raised : (keys : List InstalledKey) (channels : Channels) (window : ℕ) (sci : Sci) (an pn : ℕ) →
    first_refusal (rx_low_refusals keys channels sci an pn) ≡ None → RxRowsAgree window channels.rows → RxRowsAgree window (with_rx_low channels sci an pn).rows
with_one_raised keys channels window sci an pn e agree =
    let none = none_hold (rx_low_refusals keys channels sci an pn) e in
    let not_below = none_below sci an pn channels.rows agree.places none.1.1.1.0 in
    record {
      places = one_place_kept (row_raised pn) (raises pn) sci an channels.rows agree.places;
      within = All-map (IsWithin window) (at_place (row_raised pn) sci an) channels.rows
          (λ k d less. one_within window (row_raised pn) sci an (slice_index_or channels.rows k d)
          (λ here. raised (slice_index_or channels.rows k d) (not_below k d less here) (agree.within k d less)) (agree.within k d less));
    }
  where
    raised : (row : RxRow) → row.lowest ≤ pn → IsWithin window row → IsWithin window (row_raised pn row)
    raised row not_below within = omega arith

-- ---- frames

accepting : (window number : ℕ) (row : RxRow) → IsWithin window row → IsWithin window (row_accepting window number row)
accepting window number row within = omega arith

pub after_receiving : (window : ℕ) (j : Judgement) (rows : List RxRow) → RxRowsAgree window rows → RxRowsAgree window (rows_after window j rows)
after_receiving window j rows agree = by_parts (accepted_number j) j.row
  where
    by_parts : (number : Option ℕ) (row : Option RxRow) → RxRowsAgree window (rows_accepting window number row rows)
    by_parts None row = agree
    by_parts (Some number) None = agree
    by_parts (Some number) (Some row) = record {
      places = one_place_kept (row_accepting window number) (accepts window number) row.sci row.an rows agree.places;
      within = within_after window (at_place (row_accepting window number) row.sci row.an)
          (λ r within. one_within window (row_accepting window number) row.sci row.an r (λ here. accepting window number r within) within) rows agree.within;
    }

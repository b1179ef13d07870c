-- The SA that a frame is delivered from: its SCI and number, its sender, its window, and its packet numbers afterwards.
use Rattle.std.proofs.lemmas.List.Elements.{All-contains}
use Rattle.macsec_rx.specs.Judge.{rows_after}
use Rattle.macsec_secy.proofs.{
  Names.{[], ◌&&◌, ◌+◌, ◌==◌, ◌||◌, ◌∙◌, ◌∷◌, ◌≡◌, ◌≢◌, ◌≤◌, ◌⊎◌, All, All-cons, All-contains_itself, All-nil, ap},
  Names.{AreRxRows, AreScis, arith, at_place, Bool, Contains, eq-eqb, eqb-false, false, has_channel, HasOtherSsci},
  Names.{if◌then◌else◌, inl, inr, InstalledKey, is_at, is_own_ssci, is_xpn, IsAbove, IsRxRow, IsSound, Judgement},
  Names.{judgement_of, length, List, list_any, map, None, NoTwo, option_map, or_parts, Reading, reading, refl},
  Names.{row_accepting, rows_accepting, rx_row, RxRow, same_place, same_sci, Sci, Some, State, subst, sym, the_key},
  Names.{true, used_in, ℕ},
  Contained.{first_or_behind, none_there},
  Deliveries.delivery_tells,
  InUse.{found, used_holds},
  KeysApart.{octets_same, the_key_found},
  RxRowsStay.{accepts, at_one_place, rx_row-map},
  Sums.one_sci,
}
use Rattle.macsec_secy.specs.{Delivers.{DeliversFrom, IsOfOtherSender}, Kept.RxRowsAreApart}

-- ---- the SA is found by its SC and number

pub at_own_place : (row : RxRow) → is_at row.sci row.an row ≡ true
at_own_place row = rw (octets_same row.sci.0, eq-eqb row.an row.an refl) refl

-- no other SA has this one's SC and number
elsewhere : (r : RxRow) (rows : List RxRow) → list_any (same_place r) rows ≡ false → All (λ row. is_at row.sci row.an r ≡ false) rows
elsewhere r [] none = All-nil (λ row. is_at row.sci row.an r ≡ false)
elsewhere r (row ∷ rows) none =
    let parts = or_parts (same_place r row) (list_any (same_place r) rows) none in
    All-cons (λ (x : RxRow). is_at x.sci x.an r ≡ false) row rows parts.0 (elsewhere r rows parts.1)

at_its_place : (rows : List RxRow) → NoTwo same_place rows → RxRowsAreApart rows
at_its_place [] apart row there = absurd (none_there row there)
at_its_place (r ∷ rows) apart row there = by_case (first_or_behind r rows row there) (at_its_place rows apart.1 row)
  where
    by_case : (r ≡ row) ⊎ Contains rows row → (Contains rows row → rx_row rows row.sci row.an ≡ Some row) → rx_row (r ∷ rows) row.sci row.an ≡ Some row
    by_case (inl here) goes = subst (λ (y : RxRow). rx_row (r ∷ rows) y.sci y.an ≡ Some y) here (ap (λ b. if b then Some r else rx_row rows r.sci r.an) (at_own_place r))
    by_case (inr later) goes =
        ap (λ b. if b then Some r else rx_row rows row.sci row.an) (All-contains (λ (x : RxRow). is_at x.sci x.an r ≡ false) rows row (elsewhere r rows apart.0) later) ∙ goes later

pub rx_rows_are_apart : (s : State) → IsSound s → RxRowsAreApart s.rx.rows
rx_rows_are_apart s sound = at_its_place s.rx.rows sound.agrees.rx_places

pub used_at_place : (s : State) (r : Reading) (row : RxRow) → NoTwo same_place s.rx.rows → used_in s r ≡ Some row → rx_row s.rx.rows row.sci row.an ≡ Some row
used_at_place s r row apart used = at_its_place s.rx.rows apart row (used_holds (Contains s.rx.rows) s r row (All-contains_itself s.rx.rows) used)

-- ---- its sender

pub all_rows : (scis : List Sci) (rows : List RxRow) → AreRxRows scis rows → All (IsRxRow scis) rows
all_rows scis [] are = All-nil (IsRxRow scis)
all_rows scis (row ∷ rows) are = All-cons (IsRxRow scis) row rows are.0 (all_rows scis rows are.2)

channel_sci : (scis : List Sci) (sci : Sci) → AreScis scis → has_channel scis sci ≡ true → length sci.0 ≡ 8
channel_sci [] sci are there = cc
channel_sci (s ∷ scis) sci are there = by_test (same_sci s sci) refl there (channel_sci scis sci are.2)
  where
    by_test : (b : Bool) → same_sci s sci ≡ b → (b || has_channel scis sci) ≡ true → (has_channel scis sci ≡ true → length sci.0 ≡ 8) → length sci.0 ≡ 8
    by_test true same there' later = subst (λ (t : Sci). length t.0 ≡ 8) (one_sci s sci same) are.0.count
    by_test false other there' later = later there'

other_sender : (s : State) (row : RxRow) → IsSound s → rx_row s.rx.rows row.sci row.an ≡ Some row → IsOfOtherSender s row
other_sender s row sound is =
    let bounds = (found (λ (r : RxRow). is_at row.sci row.an r) (IsRxRow s.rx.scis) s.rx.rows row (all_rows s.rx.scis s.rx.rows sound.rx.rows) is).holds in
    let other = (found (λ (r : RxRow). is_at row.sci row.an r) (HasOtherSsci s.keys) s.rx.rows row sound.agrees.other_sscis is).holds in
    record {
      key = the_key_found s.keys row.key other.there;
      sci_count = channel_sci s.rx.scis row.sci sound.rx.scis bounds.channel;
      ssci = bounds.ssci;
      other_sci = λ same. absurd (let no = sym (ap (has_channel s.rx.scis) same ∙ bounds.channel) ∙ sound.agrees.other_scis in cc);
      other_ssci = λ xpn same. not_own (the_key s.keys row.key) other.other xpn same;
    }
  where
    not_own : (key : InstalledKey) → is_own_ssci key row.ssci ≡ false → is_xpn key.suite ≡ true → key.ssci ≢ row.ssci
    not_own key own xpn same = eqb-false row.ssci key.ssci (ap (λ b. b && row.ssci == key.ssci) (sym xpn) ∙ own) (sym same)

-- ---- after the delivery

pub above_accepted : (window : ℕ) (j : Judgement) (rows : List RxRow) (row : RxRow) → j.row ≡ Some row → (j.step == 13) ≡ true → rx_row rows row.sci row.an ≡ Some row →
    IsAbove (rows_after window j rows) row.sci row.an (j.number + 1)
above_accepted window j rows row of_row thirteen at =
    let f = at_place (row_accepting window j.number) row.sci row.an in
    let rows_are : rows_after window j rows ≡ map f rows =
    ap (λ b. rows_accepting window (if b then Some j.number else None) j.row rows) thirteen ∙ ap (λ o. rows_accepting window (Some j.number) o rows) of_row in
    record {
      row = row_accepting window j.number row;
      there = ap (λ (rs : List RxRow). rx_row rs row.sci row.an) rows_are
          ∙ rx_row-map f (at_one_place (row_accepting window j.number) (accepts window j.number) row.sci row.an) rows row.sci row.an
          ∙ ap (option_map f) at ∙ ap (λ b. Some (if b then row_accepting window j.number row else row)) (at_own_place row);
      above = omega arith;
    }

pub delivers_from : (s : State) (frame : List ℕ) (row : RxRow) (delivered : List ℕ) → DeliversFrom s frame row delivered
delivers_from s frame row delivered sound of_row delivers =
    let tells = delivery_tells s frame row delivered of_row delivers in
    let at = used_at_place s (reading frame) row sound.agrees.rx_places tells.in_use in
    record {
      in_use = tells.in_use;
      at_place = at;
      sender = other_sender s row sound at;
      on_time = tells.on_time;
      window = (found (λ (r : RxRow). is_at row.sci row.an r) (λ (r : RxRow). r.next ≤ r.lowest + s.options.window) s.rx.rows row sound.agrees.within_window at).holds;
      accepted = λ thirteen. above_accepted s.options.window (judgement_of s frame) s.rx.rows row of_row thirteen at;
      opened = tells.opened;
    }

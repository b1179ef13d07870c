-- Lemmas on the SAs of the receive SCs.
use Rattle.{
  std.proofs.{
    Common.{◌≡◌, IfSome, ◌<◌, ◌∙◌, ℕ, ◌≤◌, Bool, true, false, cond, ◌&&◌, List, [], ◌∷◌, ◌++◌, map, length, take, drop},
    Common.{refl, arith, sym, ap, subst, Option, Some, None, IsSome, MatchOption, is_some, ◌==◌, ◌^◌, if◌then◌else◌},
    Common.{filter, eq-eqb, eqb-true},
    lemmas.{Bool.and_parts, List.{take-append-le, Elements.{All-head, All-tail}}},
  },
  std.specs.List.{All, refill},
  macsec_tag.specs.declared.identifiers.Sci.Sci,
  macsec_rx.proofs.{Room.cond_none, Scis.{one_sci, same_sci-refl}},
  macsec_rx.specs.{
    Channels.{at_place, is_at, rx_row, same_sci},
    Commands.{has_channel, row_narrowed, row_raised, row_switched},
    Judge.{in_use, row_accepting},
    Rows.{AreRxRows, IsRxRow},
    declared.RxRow.RxRow,
  },
}

pub none_from_is_some : {A : Type 0} (o : Option A) → is_some o ≡ false → o ≡ None
none_from_is_some None h = refl
none_from_is_some (Some x) h = cc

-- a look-up that returns `None` only if there is nothing finds whatever there is
pub found_if_there : {A B : Type 0} (o : Option A) (there : Option B) (P : A → Type 0) → MatchOption o (there ≡ None) P → IsSome there → IsSome o
found_if_there {B = B} None there P none some = absurd (let no : IsSome {T = B} None = subst IsSome none some in cc)
found_if_there (Some x) there P one some = refl

-- whether two SAs have the same SCI and number is symmetric
pub is_at-swapped : (row new : RxRow) → is_at new.sci new.an row ≡ false → is_at row.sci row.an new ≡ false
is_at-swapped row new other = by_test (is_at row.sci row.an new) refl
  where
    by_test : (b : Bool) → is_at row.sci row.an new ≡ b → b ≡ false
    by_test true same =
        let parts = and_parts (same_sci new.sci row.sci) (new.an == row.an) same in
        let both : is_at new.sci new.an row ≡ true = rw (one_sci new.sci row.sci parts.0, eqb-true new.an row.an parts.1, same_sci-refl row.sci, eq-eqb row.an row.an refl) refl in
        absurd (let no = sym both ∙ other in cc)
    by_test false same = refl

-- appending an SA with another SCI or number leaves a free SCI and number free
rx_row-append : (rows : List RxRow) (new : RxRow) (sci : Sci) (an : ℕ) → rx_row rows sci an ≡ None → is_at sci an new ≡ false → rx_row (rows ++ new ∷ []) sci an ≡ None
rx_row-append [] new sci an free other = rw other refl
rx_row-append (row ∷ rows) new sci an free other =
    let parts = cond_none (is_at sci an row) row (rx_row rows sci an) free in
    rw parts.0 (rx_row-append rows new sci an parts.1 other)

-- appending an SA with a free SCI and number keeps the invariant
pub AreRxRows-append : (scis : List Sci) (rows : List RxRow) (new : RxRow) → AreRxRows scis rows → rx_row rows new.sci new.an ≡ None →
    IsRxRow scis new → AreRxRows scis (rows ++ new ∷ [])
AreRxRows-append scis [] new h free good = (good, refl, tt)
AreRxRows-append scis (row ∷ rows) new h free good =
    let parts = cond_none (is_at new.sci new.an row) row (rx_row rows new.sci new.an) free in
    (h.0, rx_row-append rows new row.sci row.an h.1 (is_at-swapped row new parts.0), AreRxRows-append scis rows new h.2 parts.1 good)

-- an SA's bounds hold for any list of SCs that has its own
IsRxRow-of : (scis more : List Sci) (row : RxRow) → has_channel more row.sci ≡ true → IsRxRow scis row → IsRxRow more row
IsRxRow-of scis more row there h =
    record { channel = there; an = h.an; key = h.key; ssci = h.ssci; next = h.next; lowest_least = h.lowest_least; lowest = h.lowest }

-- adding SCs keeps the invariant of the SAs
pub AreRxRows-more_channels : (scis more : List Sci) → ((s : Sci) → has_channel scis s ≡ true → has_channel more s ≡ true) →
    (rows : List RxRow) → AreRxRows scis rows → AreRxRows more rows
AreRxRows-more_channels scis more still [] h = tt
AreRxRows-more_channels scis more still (row ∷ rows) h =
    (IsRxRow-of scis more row (still row.sci h.0.channel) h.0, h.1, AreRxRows-more_channels scis more still rows h.2)

-- a change of packet numbers, or enabling or disabling, which keeps SCI and association number
pub record KeepsPlace (f : RxRow → RxRow) : Type 0 where
  pub sci : (row : RxRow) → (f row).sci ≡ row.sci
  pub an : (row : RxRow) → (f row).an ≡ row.an

rx_row-map : (f : RxRow → RxRow) → KeepsPlace f → (rows : List RxRow) (sci : Sci) (an : ℕ) → rx_row rows sci an ≡ None → rx_row (map f rows) sci an ≡ None
rx_row-map f same [] sci an free = refl
rx_row-map f same (row ∷ rows) sci an free =
    let parts = cond_none (is_at sci an row) row (rx_row rows sci an) free in
    rw (same.sci row, same.an row, parts.0) (rx_row-map f same rows sci an parts.1)

pub AreRxRows-map : (scis : List Sci) (f : RxRow → RxRow) → KeepsPlace f → ((row : RxRow) → IsRxRow scis row → IsRxRow scis (f row)) →
    (rows : List RxRow) → AreRxRows scis rows → AreRxRows scis (map f rows)
AreRxRows-map scis f same good [] h = tt
AreRxRows-map scis f same good (row ∷ rows) h =
    (good row h.0, rw (same.sci row, same.an row) (rx_row-map f same rows row.sci row.an h.1), AreRxRows-map scis f same good rows h.2)

rx_row-filter : (p : RxRow → Bool) (rows : List RxRow) (sci : Sci) (an : ℕ) → rx_row rows sci an ≡ None → rx_row (filter p rows) sci an ≡ None
rx_row-filter p [] sci an free = refl
rx_row-filter p (row ∷ rows) sci an free =
    let parts = cond_none (is_at sci an row) row (rx_row rows sci an) free in
    by_test (p row) (filter p rows) parts.0 (rx_row-filter p rows sci an parts.1)
  where
    by_test : (b : Bool) (others : List RxRow) → is_at sci an row ≡ false → rx_row others sci an ≡ None → rx_row (cond b (row ∷ others) others) sci an ≡ None
    by_test true others other rest = rw other rest
    by_test false others other rest = rest

-- deleting SAs keeps the invariant, if the SCs of the other SAs stay
pub AreRxRows-filter : (scis left : List Sci) (p : RxRow → Bool) → ((row : RxRow) → p row ≡ true → has_channel scis row.sci ≡ true → has_channel left row.sci ≡ true) →
    (rows : List RxRow) → AreRxRows scis rows → AreRxRows left (filter p rows)
AreRxRows-filter scis left p still [] h = tt
AreRxRows-filter scis left p still (row ∷ rows) h =
    by_test (p row) refl (filter p rows) (rx_row-filter p rows row.sci row.an h.1) (AreRxRows-filter scis left p still rows h.2)
  where
    by_test : (b : Bool) → p row ≡ b → (others : List RxRow) → rx_row others row.sci row.an ≡ None → AreRxRows left others → AreRxRows left (cond b (row ∷ others) others)
    by_test true is others free h' = (IsRxRow-of scis left row (still row is h.0.channel) h.0, free, h')
    by_test false is others free h' = h'

-- a change of one SA that keeps its bounds keeps all bounds
pub IsRxRow-at_place : (scis : List Sci) (f : RxRow → RxRow) → ((row : RxRow) → IsRxRow scis row → IsRxRow scis (f row)) →
    (sci : Sci) (an : ℕ) (row : RxRow) → IsRxRow scis row → IsRxRow scis (at_place f sci an row)
IsRxRow-at_place scis f good sci an row h = by_test (is_at sci an row)
  where
    by_test : (b : Bool) → IsRxRow scis (if b then f row else row)
    by_test true = good row h
    by_test false = h

pub IsRxRow-switched : (scis : List Sci) (on : Bool) (row : RxRow) → IsRxRow scis row → IsRxRow scis (row_switched on row)
IsRxRow-switched scis on row h = record { channel = h.channel; an = h.an; key = h.key; ssci = h.ssci; next = h.next; lowest_least = h.lowest_least; lowest = h.lowest }

pub IsRxRow-raised : (scis : List Sci) (pn : ℕ) (row : RxRow) → 1 ≤ pn → pn ≤ 2 ^ 64 → IsRxRow scis row → IsRxRow scis (row_raised pn row)
IsRxRow-raised scis pn row some small h =
    record { channel = h.channel; an = h.an; key = h.key; ssci = h.ssci; next = omega (arith, h.next, small); lowest_least = some; lowest = omega arith }

pub IsRxRow-accepting : (scis : List Sci) (window number : ℕ) (row : RxRow) → number < 2 ^ 64 → IsRxRow scis row → IsRxRow scis (row_accepting window number row)
IsRxRow-accepting scis window number row small h =
    let next : (row_accepting window number row).next ≤ 2 ^ 64 = omega (arith, h.next, small) in
    let least : 1 ≤ (row_accepting window number row).lowest = omega (arith, h.lowest_least) in
    record { channel = h.channel; an = h.an; key = h.key; ssci = h.ssci; next = next; lowest_least = least; lowest = omega (arith, h.lowest) }

pub AreRxRows-narrowed : (scis : List Sci) (window : ℕ) (rows : List RxRow) → AreRxRows scis rows → AreRxRows scis (map (row_narrowed window) rows)
AreRxRows-narrowed scis window =
    AreRxRows-map scis _ (record { sci = λ row. refl; an = λ row. refl })
    (λ row h. record { channel = h.channel; an = h.an; key = h.key; ssci = h.ssci; next = h.next; lowest_least = omega (arith, h.lowest_least); lowest = omega (arith, h.lowest) })

take-length : {X : Type 0} (ws : List X) → take (length ws) ws ≡ ws
take-length [] = refl
take-length (w ∷ ws) = ap (λ rest. w ∷ rest) (take-length ws)

-- after a borrow as a slice, the list is as the borrower left it
pub refill-same_length : {X : Type 0} (xs ws : List X) → length ws ≡ length xs → refill (length xs) xs ws ≡ ws
refill-same_length xs ws same =
    let fits : length xs ≤ length ws = omega arith in
    rw (← same) (take-append-le (length ws) ws (drop (length ws) xs) (omega arith) ∙ take-length ws)

-- what holds for every SA holds for the one that is found
pub holds_of_row : (P : RxRow → Type 0) (rows : List RxRow) (sci : Sci) (an : ℕ) (row : RxRow) → All P rows → rx_row rows sci an ≡ Some row → P row
holds_of_row P [] sci an row h e = cc
holds_of_row P (first ∷ rows) sci an row h e = by_test (is_at sci an first) (holds_of_row P rows sci an row (All-tail P first rows h)) e
  where
    by_test : (b : Bool) → (rx_row rows sci an ≡ Some row → P row) → cond b (Some first) (rx_row rows sci an) ≡ Some row → P row
    by_test true later e' = let same : first ≡ row = cc in rw (← same) (All-head P first rows h)
    by_test false later e' = later e'

-- what holds for every SA holds for the one that is enabled for a frame
pub IfSome-in_use : (P : RxRow → Type 0) (rows : List RxRow) (an : ℕ) (sci : Option Sci) → All P rows → IfSome (in_use rows an sci) P
IfSome-in_use P rows an None h = tt
IfSome-in_use P [] an (Some sci) h = tt
IfSome-in_use P (first ∷ rows) an (Some sci) h =
    by_test (is_at sci an first && first.on) (All-head P first rows h) (IfSome-in_use P rows an (Some sci) (All-tail P first rows h))
  where
    by_test : (b : Bool) → P first → IfSome (in_use rows an (Some sci)) P → IfSome (cond b (Some first) (in_use rows an (Some sci))) P
    by_test true here later = here
    by_test false here later = later

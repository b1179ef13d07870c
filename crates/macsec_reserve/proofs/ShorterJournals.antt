-- A compacted journal: what is read in it, and how long it is.
use Rattle.std.proofs.{
  Common.{Fits, w8, drop-drop, take-append-drop},
  lemmas.List.Elements.{All-drop, All-from_get_or, All-take},
}
use Rattle.macsec_reserve.proofs.{
  Prelude.{[], ◌*◌, ◌++◌, ◌+◌, ◌-◌, ◌/◌, ◌<◌, ◌^◌, ◌∙◌, ◌∷◌, ◌≡◌, ◌≤◌, All, All-append, All-cons, All-head, All-nil},
  Prelude.{All-tail, and_from, and_parts, ap, append-nil, append_assoc, arith, Bool, check_of, drop, drop_at, false},
  Prelude.{from_be_bytes, get_or, highest, if◌then◌else◌, is_journal, IsCompacted, IsReservation, le-leb, leb-true},
  Prelude.{length, length-append, length-drop, length-take-le, List, max, nat_le, record_of, records_of, reduced, refl},
  Prelude.{Reservation, reservations, reserved_in, reserved_within, salt_of, same_octets, slice_range, suc, sym, take},
  Prelude.{take_at, true, w64, zero, ℕ},
  HighestOf.highest-append,
  Reduced.{reduced_are, reduced_fits, reduced_reserves},
  Written.{length_of_record, range-append, record_read_back},
}
use Rattle.macsec_reserve.specs.{Compaction.compacted, Journal.header}

-- ---- the first record, and the others

one_place_on : (octets : List ℕ) (n : ℕ) → slice_range (drop 64 octets) (64 * n) (64 * n + 64) ≡ slice_range octets (64 * suc n) (64 * suc n + 64)
one_place_on octets n =
    let same : 64 * n + 64 - 64 * n ≡ 64 * suc n + 64 - 64 * suc n = omega arith in
    let at : 64 + 64 * n ≡ 64 * suc n = omega arith in
    ap (λ (xs : List ℕ). take (64 * n + 64 - 64 * n) xs) (drop-drop (64 * n) 64 octets ∙ ap (λ k. drop k octets) at)
    ∙ ap (λ k. take k (drop (64 * suc n) octets)) same

within_split : (n : ℕ) (octets : List ℕ) → reserved_within (suc n) octets ≡ reserved_in (take 64 octets) ++ reserved_within n (drop 64 octets)
within_split zero octets = sym (append-nil (reserved_in (take 64 octets)))
within_split (suc n) octets =
    ap (λ rs. rs ++ reserved_in (slice_range octets (64 * suc n) (64 * suc n + 64))) (within_split n octets)
    ∙ append_assoc (reserved_in (take 64 octets)) (reserved_within n (drop 64 octets)) (reserved_in (slice_range octets (64 * suc n) (64 * suc n + 64)))
    ∙ ap (λ xs. reserved_in (take 64 octets) ++ (reserved_within n (drop 64 octets) ++ reserved_in xs)) (sym (one_place_on octets n))

pub reservations_split : (octets : List ℕ) → 64 ≤ length octets → reservations octets ≡ reserved_in (take 64 octets) ++ reservations (drop 64 octets)
reservations_split octets long =
    let n : ℕ = length (drop 64 octets) / 64 in
    let count : length octets / 64 ≡ suc n = omega (arith, length-drop 64 octets, long) in
    ap (λ k. reserved_within k octets) count ∙ within_split n octets

-- ---- records that were written, and nothing else

pub reads_records : (rs : List Reservation) → All IsReservation rs → (reservations (records_of rs) ≡ rs) × (length (records_of rs) ≡ 64 * length rs)
reads_records [] are = (refl, refl)
reads_records (r ∷ rs) are =
    let is : IsReservation r = All-head IsReservation r rs are in
    let one : length (record_of r) ≡ 64 = length_of_record r is in
    let rest = reads_records rs (All-tail IsReservation r rs are) in
    let long : length (record_of r ++ records_of rs) ≡ 64 + 64 * length rs = omega (arith, length-append (record_of r) (records_of rs), one, rest.1) in (
      reservations_split (record_of r ++ records_of rs) (omega (arith, long))
          ∙ ap (λ xs. reserved_in xs ++ reservations (drop 64 (record_of r ++ records_of rs))) (take_at (record_of r) (records_of rs) 64 one)
          ∙ ap (λ qs. qs ++ reservations (drop 64 (record_of r ++ records_of rs))) (record_read_back r is)
          ∙ ap (λ xs. r ∷ reservations xs) (drop_at (record_of r) (records_of rs) 64 one)
          ∙ ap (λ qs. r ∷ qs) rest.0,
      omega (arith, long),
    )

-- ---- what is read has the form of a reservation

eight_small : (a b c d e f g h : ℕ) → a < 256 → b < 256 → c < 256 → d < 256 → e < 256 → f < 256 → g < 256 → h < 256 →
    from_be_bytes w64 (a ∷ b ∷ c ∷ d ∷ e ∷ f ∷ g ∷ h ∷ []) < 2 ^ 64
eight_small a b c d e f g h ha hb hc hd he hf hg hh = omega arith

number_small : (octets : List ℕ) → All (λ x. x < 256) octets → length octets ≡ 8 → from_be_bytes w64 octets < 2 ^ 64
number_small (a ∷ b ∷ c ∷ d ∷ e ∷ f ∷ g ∷ h ∷ []) small long =
    eight_small a b c d e f g h (small 0 0 (omega arith)) (small 1 0 (omega arith)) (small 2 0 (omega arith)) (small 3 0 (omega arith))
    (small 4 0 (omega arith)) (small 5 0 (omega arith)) (small 6 0 (omega arith)) (small 7 0 (omega arith))
number_small other small long = absurd (omega (arith, long))

reserved_is : (octets : List ℕ) → All (λ x. x < 256) octets → length octets ≡ 64 → All IsReservation (reserved_in octets)
reserved_is octets small long = by_check (same_octets (slice_range octets 40 64) (check_of (take 32 octets) (slice_range octets 32 40)))
  where
    by_check : (b : Bool) → All IsReservation (if b then record { name = take 32 octets; last = from_be_bytes w64 (slice_range octets 32 40) } ∷ [] else [])
    by_check true =
        let left : length (drop 32 octets) ≡ 32 = omega (arith, length-drop 32 octets, long) in
        let name_long : length (take 32 octets) ≡ 32 = length-take-le 32 octets (omega (arith, long)) in
        let number_long : length (take 8 (drop 32 octets)) ≡ 8 = length-take-le 8 (drop 32 octets) (omega (arith, left)) in
        All-cons IsReservation _ []
        (record {
          name = name_long;
          last = number_small (slice_range octets 32 40) (All-take (λ x. x < 256) 8 (drop 32 octets) (All-drop (λ x. x < 256) 32 octets small)) number_long;
        }) (All-nil IsReservation)
    by_check false = All-nil IsReservation

within_are : (n : ℕ) (octets : List ℕ) → All (λ x. x < 256) octets → 64 * n ≤ length octets → All IsReservation (reserved_within n octets)
within_are zero octets small long = All-nil IsReservation
within_are (suc n) octets small long =
    let left : 64 ≤ length (drop (64 * n) octets) = omega (arith, length-drop (64 * n) octets, long) in
    let count : 64 * n + 64 - 64 * n ≡ 64 = omega arith in
    let piece : length (take (64 * n + 64 - 64 * n) (drop (64 * n) octets)) ≡ 64 =
    ap (λ k. length (take k (drop (64 * n) octets))) count ∙ length-take-le 64 (drop (64 * n) octets) left in
    All-append IsReservation (reserved_within n octets) (reserved_in (slice_range octets (64 * n) (64 * n + 64))) (within_are n octets small (omega (arith, long)))
    (reserved_is (slice_range octets (64 * n) (64 * n + 64)) (All-take (λ x. x < 256) (64 * n + 64 - 64 * n) (drop (64 * n) octets) (All-drop (λ x. x < 256) (64 * n) octets small)) piece)

pub reservations_are : (octets : List ℕ) → All (λ x. x < 256) octets → All IsReservation (reservations octets)
reservations_are octets small = within_are (length octets / 64) octets small (omega arith)

one_at_most : (b : Bool) (r : Reservation) → length {A = Reservation} (if b then r ∷ [] else []) ≤ 1
one_at_most true r = omega arith
one_at_most false r = omega arith

count_within : (n : ℕ) (octets : List ℕ) → length (reserved_within n octets) ≤ n
count_within zero octets = omega arith
count_within (suc n) octets =
    let piece : List ℕ = slice_range octets (64 * n) (64 * n + 64) in
    let one : length (reserved_in piece) ≤ 1 =
    one_at_most (same_octets (slice_range piece 40 64) (check_of (take 32 piece) (slice_range piece 32 40))) (record { name = take 32 piece; last = from_be_bytes w64 (slice_range piece 32 40) }) in
    omega (arith, length-append (reserved_within n octets) (reserved_in piece), count_within n octets, one)

-- ---- a journal made shorter

pub are_octets : (xs : List ℕ) → ((i : ℕ) → Fits w8 (get_or xs i 0)) → All (λ x. x < 256) xs
are_octets xs fits = All-from_get_or (λ x. x < 256) xs 0 (λ i inside. omega (arith, fits i))

same_piece : (journal : List ℕ) → 64 ≤ length journal → slice_range (take 64 journal) 16 40 ≡ slice_range journal 16 40
same_piece journal long =
    let whole : take 64 journal ++ drop 64 journal ≡ journal = take-append-drop 64 journal in
    let enough : 40 ≤ length (take 64 journal) = omega (arith, length-take-le 64 journal long) in
    sym (range-append (take 64 journal) (drop 64 journal) 16 40 (omega arith) enough) ∙ ap (λ xs. slice_range xs 16 40) whole

salt_stays : (journal more : List ℕ) → 64 ≤ length journal → salt_of (take 64 journal ++ more) ≡ salt_of journal
salt_stays journal more long =
    range-append (take 64 journal) more 16 40 (omega arith) (omega (arith, length-take-le 64 journal long)) ∙ same_piece journal long

pub is_compacted : (journal : List ℕ) → All (λ x. x < 256) journal → is_journal journal ≡ true → IsCompacted journal (compacted journal)
is_compacted journal small is =
    let tests = and_parts (nat_le 64 (length journal)) (same_octets (take 64 journal) (header (salt_of journal))) is in
    let long : 64 ≤ length journal = leb-true 64 (length journal) tests.0 in
    let head : List ℕ = take 64 journal in
    let entries : List Reservation = reduced (reservations (drop 64 journal)) in
    let head_long : length head ≡ 64 = length-take-le 64 journal long in
    let are : All IsReservation entries =
    reduced_are (reservations (drop 64 journal)) (reservations_are (drop 64 journal) (All-drop (λ x. x < 256) 64 journal small)) in
    let written = reads_records entries are in
    let header_stays : same_octets (take 64 (head ++ records_of entries)) (header (salt_of (head ++ records_of entries))) ≡ same_octets head (header (salt_of journal)) =
    ap (λ xs. same_octets xs (header (salt_of (head ++ records_of entries)))) (take_at head (records_of entries) 64 head_long)
    ∙ ap (λ s. same_octets head (header s)) (salt_stays journal (records_of entries) long) in
    let longer : 64 ≤ length (head ++ records_of entries) = omega (arith, length-append head (records_of entries), head_long) in
    let read : reservations (head ++ records_of entries) ≡ reserved_in head ++ entries =
    reservations_split (head ++ records_of entries) longer
    ∙ ap (λ xs. reserved_in xs ++ reservations (drop 64 (head ++ records_of entries))) (take_at head (records_of entries) 64 head_long)
    ∙ ap (λ xs. reserved_in head ++ reservations xs) (drop_at head (records_of entries) 64 head_long)
    ∙ ap (λ rs. reserved_in head ++ rs) written.0 in
    record {
      is = and_from (nat_le 64 (length (head ++ records_of entries))) (same_octets (take 64 (head ++ records_of entries)) (header (salt_of (head ++ records_of entries))))
          (le-leb 64 (length (head ++ records_of entries)) longer) (header_stays ∙ tests.1);
      salt = salt_stays journal (records_of entries) long;
      same = λ name.
          ap (λ rs. highest rs name) read
          ∙ highest-append (reserved_in head) entries name
          ∙ ap (λ m. max (highest (reserved_in head) name) m) (reduced_reserves (reservations (drop 64 journal)) name)
          ∙ sym (highest-append (reserved_in head) (reservations (drop 64 journal)) name)
          ∙ ap (λ rs. highest rs name) (sym (reservations_split journal long));
      fits =
          omega (
            arith,
            length-append head (records_of entries),
            head_long,
            written.1,
            reduced_fits (reservations (drop 64 journal)),
            count_within (length (drop 64 journal) / 64) (drop 64 journal),
            length-drop 64 journal,
            long,
          );
    }

-- What a process writes is read as it was written, and nothing else.
use Rattle.{
  std.{
    proofs.{
      Common.{◌≡◌, ℕ, zero, suc, ◌+◌, ◌-◌, ◌*◌, ◌/◌, ◌^◌, ◌<◌, ◌≤◌, Bool, true, false, List, [], ◌∷◌, ◌++◌, length},
      Common.{take, drop},
      Common.{append-nil, append_assoc, length-append, All, refl, replicate, ap, sym, subst, ◌∙◌, arith, if◌then◌else◌},
      Common.{max, drop_at},
      Common.{slice_range, take_at},
      lemmas.List.{Elements.{All-head, All-tail}, length-replicate, replicate-append-replicate},
    },
    specs.Int.{from_be_bytes, w64},
  },
  macsec_gcm.specs.Octets.same_octets,
  macsec_reserve.{
    proofs.{
      HighestOf.highest-append,
      ShorterJournals.{reads_records, reservations_split},
      Written.{length_of_record, record_read_back},
    },
    specs.{
      Crashes.IsReservation,
      Journal.{check_of, highest, record_of, records_of, reservations, reserved_in},
      declared.reservation.Reservation.Reservation,
    },
  },
  macsec_journal.{
    proofs.Pieces.{begins_so, front_long, no_journal},
    specs.Format.{copy_length, copy_of, count_of, file_header, file_of, read_in, twice},
  },
}

-- records after one slot
pub front_read : (front : List ℕ) (rs : List Reservation) → length front ≡ 64 → All IsReservation rs → reservations
    (front ++ records_of rs) ≡ reserved_in front ++ rs
front_read front rs long are =
    reservations_split (front ++ records_of rs) (omega (arith, length-append front (records_of rs), long))
    ∙ ap (λ xs. reserved_in xs ++ reservations (drop 64 (front ++ records_of rs)))
    (take_at front (records_of rs) 64 long)
    ∙ ap (λ xs. reserved_in front ++ reservations xs) (drop_at front (records_of rs) 64 long)
    ∙ ap (λ qs. reserved_in front ++ qs) (reads_records rs are).0

pub file_read : (salt : List ℕ) (table : List Reservation) → length salt ≡ 24 → length table < 2 ^ 64 → All
    IsReservation table → read_in (file_of salt table) ≡ table
file_read salt table long few are =
    let octets : List ℕ = file_of salt table in
    let it = begins_so salt table octets [] long few are (sym (append-nil octets)) in
    ap (λ (b : Bool). reservations (drop (if b then 0 else 128) octets)) (no_journal octets salt it.header)
    ∙ ap reservations (drop_at (file_header salt ++ record_of (count_of salt table)) (records_of table) 128
    (front_long salt table long few))
    ∙ (reads_records table are).0

-- ---- records that are appended

records_then : (rs : List Reservation) (rest : List ℕ) → All IsReservation rs → reservations (records_of rs ++ rest) ≡
    rs ++ reservations rest
records_then [] rest are = refl
records_then (r ∷ rs) rest are =
    let is : IsReservation r = All-head IsReservation r rs are in
    let one : List ℕ = record_of r in
    let long : length one ≡ 64 = length_of_record r is in
    let more : List ℕ = records_of rs ++ rest in
    ap reservations (append_assoc one (records_of rs) rest)
    ∙ reservations_split (one ++ more) (omega (arith, length-append one more, long))
    ∙ ap (λ xs. reserved_in xs ++ reservations (drop 64 (one ++ more))) (take_at one more 64 long)
    ∙ ap (λ xs. reserved_in one ++ reservations xs) (drop_at one more 64 long)
    ∙ ap (λ qs. qs ++ reservations more) (record_read_back r is)
    ∙ ap (λ qs. r ∷ qs) (records_then rs rest (All-tail IsReservation r rs are))

abbrev zeros : List ℕ
zeros = replicate 64 0

-- a slot of zeros says nothing of a number above 0
zeros_say : (name : List ℕ) → highest (reserved_in zeros) name ≤ 0
zeros_say name = by_check (same_octets (slice_range zeros 40 64) (check_of (take 32 zeros) (slice_range zeros 32 40)))
  where
    by_name : (b : Bool) → (if b then max (from_be_bytes w64 (slice_range zeros 32 40)) 0 else 0) ≤ 0
    by_name true = omega arith
    by_name false = omega arith

    by_check : (b : Bool) → highest (if b then record {
      name = take 32 zeros;
      last = from_be_bytes w64
          (slice_range zeros 32 40);
    } ∷ [] else []) name ≤ 0
    by_check true = by_name (same_octets (take 32 zeros) name)
    by_check false = omega arith

zeros_then : (n : ℕ) (rest name : List ℕ) → highest (reservations (replicate (64 * n) 0 ++ rest)) name ≤ highest
    (reservations rest) name
zeros_then zero rest name = omega arith
zeros_then (suc n) rest name =
    let more : List ℕ = replicate (64 * n) 0 ++ rest in
    let size : 64 + 64 * n ≡ 64 * suc n = omega arith in
    let split : replicate (64 * suc n) 0 ++ rest ≡ zeros ++ more =
    ap (λ k. replicate k 0 ++ rest) (sym size) ∙ ap (λ xs. xs ++ rest) (sym (replicate-append-replicate 64 (64 * n) 0))
    ∙ append_assoc zeros (replicate (64 * n) 0) rest in
    let read : reservations (replicate (64 * suc n) 0 ++ rest) ≡ reserved_in zeros ++ reservations more =
    ap reservations split
    ∙ reservations_split (zeros ++ more) (omega (arith, length-append zeros more, length-replicate {A = ℕ} 64 0))
    ∙ ap (λ xs. reserved_in xs ++ reservations (drop 64 (zeros ++ more))) (take_at zeros more 64 refl)
    ∙ ap (λ xs. reserved_in zeros ++ reservations xs) (drop_at zeros more 64 refl) in
    let says : highest (reservations (replicate (64 * suc n) 0 ++ rest)) name ≡ highest
    (reserved_in zeros ++ reservations more) name = ap (λ rs. highest rs name) read in
    omega (
      arith,
      says,
      highest-append (reserved_in zeros) (reservations more) name,
      zeros_say name,
      zeros_then n rest
          name,
    )

copy_then : (rs : List Reservation) (rest name : List ℕ) → All IsReservation rs → highest
    (reservations (copy_of rs ++ rest)) name ≤ max (highest rs name) (highest (reservations rest) name)
copy_then rs rest name are =
    let fill : ℕ = copy_length (length rs) - 64 * length rs in
    let n : ℕ = fill / 64 in
    let slots : 64 * n ≡ fill = omega arith in
    let read : reservations (copy_of rs ++ rest) ≡ rs ++ reservations (replicate fill 0 ++ rest) =
    ap reservations (append_assoc (records_of rs) (replicate fill 0) rest) ∙ records_then rs (replicate fill 0 ++ rest)
    are in
    let less : highest (reservations (replicate fill 0 ++ rest)) name ≤ highest (reservations rest) name =
    subst (λ k. highest (reservations (replicate k 0 ++ rest)) name ≤ highest (reservations rest) name) slots
    (zeros_then n rest name) in
    let says : highest (reservations (copy_of rs ++ rest)) name ≡ highest
    (rs ++ reservations (replicate fill 0 ++ rest)) name = ap (λ qs. highest qs name) read in
    omega (arith, says, highest-append rs (reservations (replicate fill 0 ++ rest)) name, less)

pub twice_says : (rs : List Reservation) → All IsReservation rs → (name : List ℕ) → highest (reservations (twice rs))
    name ≤ highest rs name
twice_says rs are name =
    let last : highest (reservations (copy_of rs ++ [])) name ≡ highest (reservations (copy_of rs)) name =
    ap (λ xs. highest (reservations xs) name) (append-nil (copy_of rs)) in
    omega (arith, copy_then rs (copy_of rs) name are, copy_then rs [] name are, last)

-- The journals of worked runs: a header whose salt ends with eight zeros, so that it reserves nothing even if it reads
-- as a record, and whole records.
use Rattle.{
  std.proofs.Common.{length-append, codes, drop_at, length-take-le},
  macsec_reserve.{
    proofs.{HighestOf.highest-append, ShorterJournals.{reads_records, reservations_split}},
    specs.Journal.{check_of, check_of_header, header, is_journal, records_of, reserved_in, title},
  },
  macsec_counterexamples.proofs.Names.{[], ◌++◌, ◌∙◌, ◌∷◌, ◌≡◌, ◌≤◌, All, and_from, ap, arith, Bool, drop, false},
  macsec_counterexamples.proofs.Names.{from_be_bytes, highest, if◌then◌else◌, IsReservation, le-leb, length},
  macsec_counterexamples.proofs.Names.{length-sha256, List, max, nat_le, refl, replicate, Reservation, reservations},
  macsec_counterexamples.proofs.Names.{salt_of, same_octets, same_octets-refl, sha256, slice_range, take, take_at},
  macsec_counterexamples.proofs.Names.{true, w64, ℕ},
}

-- two salts
abbrev pub salt : Bool → List ℕ
salt false = replicate 24 0
salt true = 1 ∷ replicate 23 0

abbrev pub journal : Bool → List Reservation → List ℕ
journal other rs = header (salt other) ++ records_of rs

zero_if : (b : Bool) (entry name : List ℕ) (last : ℕ) → last ≡ 0 →
    highest (if b then record { name = entry; last = last } ∷ [] else []) name ≡ 0
zero_if false entry name last none = refl
zero_if true entry name last none = by_name _
  where
    by_name : (c : Bool) → (if c then max last 0 else 0) ≡ 0
    by_name true = omega (arith, none)
    by_name false = refl

in_header : (other : Bool) (name : List ℕ) → highest (reserved_in (header (salt other))) name ≡ 0
in_header false name = zero_if (same_octets (slice_range (header (salt false)) 40 64)
    (check_of (take 32 (header (salt false))) (slice_range (header (salt false)) 32 40)))
    (take 32 (header (salt false))) name _ refl
in_header true name = zero_if (same_octets (slice_range (header (salt true)) 40 64)
    (check_of (take 32 (header (salt true))) (slice_range (header (salt true)) 32 40)))
    (take 32 (header (salt true))) name _ refl

front : (other : Bool) → length (title ++ salt other) ≡ 40
front false = refl
front true = refl

long : (other : Bool) → length (header (salt other)) ≡ 64
long other =
    let said : List ℕ = codes "macsec reserve: header" ++ title ++ salt other in
    let check : length (check_of_header (salt other)) ≡ 24 =
    length-take-le 24 (sha256 said) (omega (arith, length-sha256 said)) in
    omega (arith, length-append (title ++ salt other) (check_of_header (salt other)), front other, check)

-- a journal says what its records say
pub says : (other : Bool) (rs : List Reservation) → All IsReservation rs → (name : List ℕ) →
    highest (reservations (journal other rs)) name ≡ highest rs name
says other rs are name =
    let head : List ℕ = header (salt other) in
    let read : reservations (head ++ records_of rs) ≡ reserved_in head ++ rs =
    reservations_split (head ++ records_of rs) (omega (arith, length-append head (records_of rs), long other))
    ∙ ap (λ xs. reserved_in xs ++ reservations (drop 64 (head ++ records_of rs)))
    (take_at head (records_of rs) 64 (long _))
    ∙ ap (λ xs. reserved_in head ++ reservations xs) (drop_at head (records_of rs) 64 (long _))
    ∙ ap (λ qs. reserved_in head ++ qs) (reads_records _ are).0 in
    let same : highest (reservations (head ++ records_of rs)) name ≡ highest (reserved_in head ++ rs) name =
    ap (λ qs. highest qs name) read in
    omega (arith, same, highest-append (reserved_in head) rs name, in_header other name)

pub salt_is : (other : Bool) (rs : List Reservation) → salt_of (journal other rs) ≡ salt other
salt_is false rs = refl
salt_is true rs = refl

header_is : (other : Bool) (rs : List Reservation) →
    same_octets (take 64 (journal other rs)) (header (salt_of (journal other rs))) ≡ true
header_is other rs = ap (λ xs. same_octets xs (header (salt_of (journal other rs))))
    (take_at (header (salt other)) (records_of rs) 64 (long _))
    ∙ ap (λ s. same_octets (header (salt other)) (header s)) (salt_is _ _) ∙ same_octets-refl (header (salt other))

-- it is a journal
pub is_one : (other : Bool) (rs : List Reservation) → is_journal (journal other rs) ≡ true
is_one other rs =
    let longer : 64 ≤ length (journal other rs) =
    omega (arith, length-append (header (salt other)) (records_of rs), long other) in
    and_from _ _ (le-leb _ _ longer) (header_is _ _)

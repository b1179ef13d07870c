-- Which files a process begins with: short ones, and those that are damaged after their entries.
use Rattle.std.proofs.{
  Common.{◌≡◌, ℕ, zero, suc, ◌+◌, ◌-◌, ◌*◌, ◌/◌, ◌^◌, ◌<◌, ◌≤◌, inr, Bool, true, false, List, [], ◌∷◌, ◌++◌, length},
  Common.{take, drop, slice_range, refl, ap, sym, subst, ◌∙◌, arith, if◌then◌else◌, ◌&&◌, ◌||◌, append_assoc},
  Common.{length-append, length-drop, length-take-le, le-leb, leb-true, lt-ltb, nat_le, nat_lt},
  lemmas.Bool.{and_from, and_parts},
}
use Rattle.std.specs.Int.{from_be_bytes, w64}
use Rattle.macsec_gcm.specs.Octets.{same_octets}
use Rattle.macsec_reserve.{
  proofs.{Reduced.reduced_fits, Written.range-append},
  specs.{
    Entries.reduced,
    Journal.{check_of, is_journal, reservations, reserved_in, reserved_within, salt_of},
    declared.reservation.Reservation.Reservation,
  },
}
use Rattle.macsec_journal.{
  proofs.Pieces.{Guards},
  specs.{
    Damage.IsDamaged,
    Disk.File,
    Format.{agrees, counted_by, counted_end, counted_octets, entries_digest, entries_in, file_header, fits},
    Format.{has_file_header, is_readable, is_whole, read_in, skipped, slot_of_count},
    Laws.{Covers, IsShort, Says},
  },
}

-- ---- short files

one_at_most : (octets : List ℕ) → length (reserved_in octets) ≤ 1
one_at_most octets = by_check
    (same_octets (slice_range octets 40 64) (check_of (take 32 octets) (slice_range octets 32 40)))
  where
    the_one : Reservation
    the_one = record { name = take 32 octets; last = from_be_bytes w64 (slice_range octets 32 40) }

    by_check : (b : Bool) → length (if b then the_one ∷ [] else []) ≤ 1
    by_check true = omega arith
    by_check false = omega arith

few_within : (n : ℕ) (octets : List ℕ) → length (reserved_within n octets) ≤ n
few_within zero octets = omega arith
few_within (suc n) octets =
    let more : List Reservation = reserved_in (slice_range octets (64 * n) (64 * n + 64)) in
    omega (
      arith,
      length-append (reserved_within n octets) more,
      few_within n octets,
      one_at_most (slice_range octets (64 * n) (64 * n + 64)),
    )

skips_within : (octets : List ℕ) → is_readable octets ≡ true → skipped octets ≤ length octets
skips_within octets is =
    by_form (is_journal octets) (has_file_header octets) (is_whole octets)
    (λ whole. leb-true 128 (length octets) (and_parts (nat_le 128 (length octets)) (agrees (reserved_in
    (slot_of_count octets)) octets) whole).0) is
  where
    by_form : (a b c : Bool) → (c ≡ true → 128 ≤ length octets) → (a || (b && c)) ≡ true →
        (if a then 0 else 128) ≤ length octets
    by_form true b c long has = omega arith
    by_form false true c long has = long has
    by_form false false c long has = cc

pub short_fits : (limit : ℕ) (octets : List ℕ) → limit < 2 ^ 64 → IsShort limit octets → is_readable octets ≡ true →
    fits limit (length (reduced (read_in octets))) ≡ true
short_fits limit octets small short is =
    let rest : List ℕ = drop (skipped octets) octets in
    let n : ℕ = length (reduced (read_in octets)) in
    let few : n ≤ length rest / 64 = omega (arith, reduced_fits (read_in octets), few_within (length rest / 64) rest) in
    let long : length rest ≡ length octets - skipped octets = length-drop (skipped octets) octets in
    let space : length octets + 128 ≤ limit + skipped octets = short in
    let fit : n + 1 < limit / 64 = omega (arith, few, long, space, skips_within octets is) in
    and_from (nat_lt (n + 1) (limit / 64)) (nat_lt n (2 ^ 64)) (lt-ltb (n + 1) (limit / 64) fit)
    (lt-ltb n (2 ^ 64) (omega (arith, fit, small)))

-- ---- damage after the entries

-- the octets of both from one index to another, before the damage
same_range : (octets damaged : List ℕ) (harm : IsDamaged octets damaged) (i j : ℕ) → i ≤ j → j ≤ length harm.before →
    slice_range damaged i j ≡ slice_range octets i j
same_range octets damaged harm i j order within =
    let p : List ℕ = harm.before in
    ap (λ xs. slice_range xs i j) (harm.becomes ∙ append_assoc p harm.now harm.behind)
    ∙ range-append p (harm.now ++ harm.behind) i j order within
    ∙ sym (range-append p (harm.was ++ harm.behind) i j order within)
    ∙ sym (ap (λ xs. slice_range xs i j) (harm.is ∙ append_assoc p harm.was harm.behind))

both_longer : (octets damaged : List ℕ) (harm : IsDamaged octets damaged) → (length harm.before ≤ length octets) ×
    (length harm.before ≤ length damaged)
both_longer octets damaged harm =
    let p : List ℕ = harm.before in (
      omega (
        arith,
        ap length harm.is,
        length-append (p ++ harm.was) harm.behind,
        length-append p harm.was,
      ),
      omega (
        arith,
        ap length harm.becomes,
        length-append (p ++ harm.now) harm.behind,
        length-append p harm.now,
      ),
    )

-- the count agrees still, and counts the same
pub record AgreesStill (octets damaged : List ℕ) (found : List Reservation) : Type 0 where
  pub is : agrees found damaged ≡ true
  pub same : counted_by found damaged ≡ counted_by found octets

agrees_still : (octets damaged : List ℕ) (harm : IsDamaged octets damaged) → 128 ≤ length harm.before →
    (found : List Reservation) → agrees found octets ≡ true → 128 + length (counted_by found octets) ≤ length
    harm.before → AgreesStill octets damaged found
agrees_still octets damaged harm long [] agree within = cc
agrees_still octets damaged harm long (count ∷ more) agree within =
    let n : ℕ = count.last in
    let both = and_parts (nat_le n ((length octets - 128) / 64)) (same_octets (entries_digest (salt_of octets)
    (entries_in n octets)) count.name) agree in
    let many : n ≤ (length octets - 128) / 64 = leb-true n ((length octets - 128) / 64) both.0 in
    let whole : 128 ≤ length octets = omega (arith, long, (both_longer octets damaged harm).0) in
    let size : length (entries_in n octets) ≡ 128 + 64 * n - 128 =
    length-take-le (128 + 64 * n - 128) (drop 128 octets) (omega (arith, length-drop 128 octets, many, whole)) in
    let own : 128 + length (entries_in n octets) ≤ length harm.before = within in
    let fit : 128 + 64 * n ≤ length harm.before = omega (arith, own, size) in
    let entries : entries_in n damaged ≡ entries_in n octets = same_range octets damaged harm 128 (128 + 64 * n)
    (omega arith) fit in
    let salt : salt_of damaged ≡ salt_of octets = same_range octets damaged harm 16 40 (omega arith)
    (omega (arith, long)) in
    let digest : same_octets (entries_digest (salt_of damaged) (entries_in n damaged)) count.name ≡ true =
    ap (λ s. same_octets (entries_digest s (entries_in n damaged)) count.name) salt
    ∙ ap (λ xs. same_octets (entries_digest (salt_of octets) xs) count.name) entries
    ∙ both.1 in
    record {
      is = and_from (nat_le n ((length damaged - 128) / 64)) (same_octets (entries_digest (salt_of damaged)
          (entries_in n damaged)) count.name)
          (le-leb n ((length damaged - 128) / 64) (omega (arith, fit, (both_longer octets damaged harm).1))) digest;
      same = entries;
    }

file_parts : (a b c : Bool) → (a || (b && c)) ≡ true → a ≡ false → (b ≡ true) × (c ≡ true)
file_parts true b c is none = cc
file_parts false b c is none = and_parts b c is

or_file : (a b c : Bool) → b ≡ true → c ≡ true → (a || (b && c)) ≡ true
or_file true b c is whole = refl
or_file false b c is whole = and_from b c is whole

pub covers_so : (salt : List ℕ) (told : List Reservation) (f : File) → Guards salt told f → Covers salt told f
covers_so salt told f it octets damaged harm left counted behind =
    let readable : is_readable octets ≡ true = (it.keeps octets left).is in
    let parts = file_parts (is_journal octets) (has_file_header octets) (is_whole octets) readable counted in
    let agree : agrees (reserved_in (slot_of_count octets)) octets ≡ true =
    (and_parts (nat_le 128 (length octets)) (agrees (reserved_in (slot_of_count octets)) octets) parts.1).1 in
    let own = (and_parts (nat_le 64 (length octets)) (same_octets (take 64 octets) (file_header (salt_of octets)))
    parts.0).1 in
    let found : List Reservation = reserved_in (slot_of_count octets) in
    let counts : 128 + length (counted_by found octets) ≤ length harm.before = behind in
    let long : 128 ≤ length harm.before = omega (arith, counts) in
    let all : 128 ≤ length damaged = omega (arith, long, (both_longer octets damaged harm).1) in
    let first : take 64 damaged ≡ take 64 octets = same_range octets damaged harm 0 64 (omega arith)
    (omega (arith, long)) in
    let salt' : salt_of damaged ≡ salt_of octets = same_range octets damaged harm 16 40 (omega arith)
    (omega (arith, long)) in
    let slot : slot_of_count damaged ≡ slot_of_count octets = same_range octets damaged harm 64 128 (omega arith) long
    in
    let still : AgreesStill octets damaged found = agrees_still octets damaged harm long found agree counts in
    let header : has_file_header damaged ≡ true =
    and_from (nat_le 64 (length damaged)) (same_octets (take 64 damaged) (file_header (salt_of damaged)))
    (le-leb 64 (length damaged) (omega (arith, all)))
    (ap (λ xs. same_octets xs (file_header (salt_of damaged))) first
    ∙ ap (λ s. same_octets (take 64 octets) (file_header s)) salt' ∙ own) in
    let whole : is_whole damaged ≡ true =
    and_from (nat_le 128 (length damaged)) (agrees (reserved_in (slot_of_count damaged)) damaged)
    (le-leb 128 (length damaged) all) (ap (λ xs. agrees (reserved_in xs) damaged) slot ∙ still.is) in
    let same : counted_octets damaged ≡ counted_octets octets =
    ap (λ xs. counted_by (reserved_in xs) damaged) slot ∙ still.same in
    it.resists octets damaged left harm (record {
      header = λ has. first;
      count = inr slot;
      entries = λ digests. same;
    }) (or_file (is_journal damaged) (has_file_header damaged) (is_whole damaged) header whole)

-- What is written ends within the limit of the file.
use Rattle.std.proofs.{
  Common.{◌≡◌, ℕ, ◌+◌, ◌*◌, ◌/◌, ◌^◌, ◌<◌, ◌≤◌, Bool, true, false, List, [], length, refl, ap, sym, subst, ◌∙◌, arith},
  Common.{All},
  Common.{if◌then◌else◌, ◌||◌, append-nil, lt-ltb, ltb-false, nat_lt, not},
  lemmas.{Bool.{and_from, or_parts}, List.Elements.{All-cons, All-nil}},
}
use Rattle.macsec_gcm.specs.Octets.{same_octets}
use Rattle.macsec_reserve.{
  proofs.Reduced.reduces,
  specs.{
    Crashes.IsReservation,
    Entries.reduced,
    declared.reservation.Reservation.Reservation,
  },
}
use Rattle.macsec_journal.proofs.{
  Counts.{all_fit, fewer, order_fits},
  Going.{AreApart, apart_is_reduced},
  Names.names_fit,
  Pieces.{file_long, twice_long, whole_guards},
  Tracking.{Tracks, in_step, table_are},
  Written.file_read,
}
use Rattle.macsec_journal.specs.{
  Disk.{Folder, Stands},
  Format.{copy_length, fits, read_in, twice},
  Laws.{AppendsWithin, WritesWithin},
  Machine.{Journal, answered, appending, ends_behind_limit, letting_go, ordering, replacing, whole},
  Machine.{is_full, is_replaced, new_among, with_order, without},
  declared.step.Step.{
    Step,
    TheVariants.{Resting, Appending, Syncing, LookingAfter, LookingBefore, Removing, Creating, Locking, Filling},
    TheVariants.{SyncingNew, Renaming, SyncingFolder},
  },
}

-- ---- a journal

abbrev OrderWithin : Step → Journal → Type 0
OrderWithin Appending j = j.end + 2 * copy_length (length j.ordered) ≤ j.limit
OrderWithin s j = Unit {0}

-- the whole file and the records that are appended fit
abbrev pub IsWithin : Journal → Type 0
IsWithin j = (length j.table + 1 < j.limit / 64) × OrderWithin j.step j

goes_within : (s : Step) (j : Journal) → IsWithin (in_step s j) → IsWithin (answered true (in_step s j))
goes_within Resting j it = (it.0, tt)
goes_within Appending j it = (it.0, tt)
goes_within Syncing j it = (it.0, tt)
goes_within LookingAfter j it = (it.0, tt)
goes_within LookingBefore j it = (it.0, tt)
goes_within Removing j it = (it.0, tt)
goes_within Creating j it = (it.0, tt)
goes_within Locking j it = (it.0, tt)
goes_within Filling j it = (it.0, tt)
goes_within SyncingNew j it = (it.0, tt)
goes_within Renaming j it = (it.0, tt)
goes_within SyncingFolder j it = (it.0, tt)

pub answer_within : (ok : Bool) (j : Journal) → IsWithin j → IsWithin (answered ok j)
answer_within true j it = goes_within j.step j it
answer_within false j it = (it.0, tt)

order_in : (rs : List Reservation) (anew : Bool) (j : Journal) → length j.table + length (new_among j.table rs) + 1 <
    j.limit / 64 → (b : Bool) → (j.doubt || (anew || ends_behind_limit rs j)) ≡ b →
    IsWithin (if b then replacing rs j else appending rs j)
order_in rs anew j fit true is = (omega (arith, fit, all_fit rs j.table), tt)
order_in rs anew j fit false is =
    let rest = or_parts j.doubt (anew || ends_behind_limit rs j) is in
    let near : ends_behind_limit rs j ≡ false = (or_parts anew (ends_behind_limit rs j) rest.1).1 in
    (omega (arith, fit, all_fit rs j.table), ltb-false j.limit (j.end + 2 * copy_length (length rs)) near)

order_unless : (rs : List Reservation) (anew : Bool) (j : Journal) → IsWithin j → (full : Bool) → is_full rs j ≡ full →
    IsWithin (if full then j else with_order rs anew j)
order_unless rs anew j it false is = order_in rs anew j (order_fits rs j is).file (is_replaced rs anew j) refl
order_unless rs anew j it true is = it

pub order_within : (rs : List Reservation) (anew : Bool) (j : Journal) → IsWithin j → IsWithin (ordering rs anew j)
order_within rs anew j it = order_unless rs anew j it (is_full rs j) refl

pub go_within : (name : List ℕ) (j : Journal) → j.step ≡ Resting → IsWithin j → IsWithin (letting_go name j)
go_within name j rests it =
    let less : length (without name j.table) ≤ length j.table = fewer (λ (r : Reservation). not
    (same_octets r.name name)) j.table in
    (omega (arith, it.0, less), subst (λ s. OrderWithin s (letting_go name j)) (sym rests) tt)

-- ---- what is written

ends_within : (s : Step) (j : Journal) → length (twice j.ordered) ≡ 2 * copy_length (length j.ordered) → OrderWithin s j
    → AppendsWithin s j
ends_within Resting j long it = tt
ends_within Appending j long it = omega (arith, long, it)
ends_within Syncing j long it = tt
ends_within LookingAfter j long it = tt
ends_within LookingBefore j long it = tt
ends_within Removing j long it = tt
ends_within Creating j long it = tt
ends_within Locking j long it = tt
ends_within Filling j long it = tt
ends_within SyncingNew j long it = tt
ends_within Renaming j long it = tt
ends_within SyncingFolder j long it = tt

pub writes_within : (salt : List ℕ) (told : List Reservation) (f : Folder) (j : Journal) → length salt ≡ 24 → Tracks
    salt told f j → IsWithin j → WritesWithin j
writes_within salt told f j long tracks it =
    let are : All IsReservation j.table = table_are tracks.knows in
    let octets : List ℕ = (whole j).octets in
    let own : length j.salt ≡ 24 = ap length tracks.knows.same ∙ long in
    let size : length octets ≡ 128 + 64 * length j.table = file_long j.salt j.table own tracks.knows.few are in
    let apart : reduced j.table ≡ j.table = apart_is_reduced j.table (subst AreApart (sym tracks.knows.table)
    (reduces tracks.knows.said).once) in
    let all : Stands octets (whole j) = record { before = []; behind = []; is = sym (append-nil octets); at = refl } in
    let read : reduced (read_in octets) ≡ j.table = ap reduced (file_read j.salt j.table own tracks.knows.few are) ∙
    apart in
    let short : (n : ℕ) → n ≤ length j.table → fits j.limit n ≡ true =
    λ n less. and_from (nat_lt (n + 1) (j.limit / 64)) (nat_lt n (2 ^ 64))
    (lt-ltb (n + 1) (j.limit / 64) (omega (arith, less, it.0)))
    (lt-ltb n (2 ^ 64) (omega (arith, less, tracks.knows.few))) in
    record {
      file = omega (arith, size, it.0);
      records = ends_within j.step j (twice_long j.ordered tracks.knows.ordered) it.1;
      begins = record {
        readable = ((whole_guards j.salt j.table j.table own tracks.knows.few are (λ name. omega arith)).keeps octets
            (All-cons (Stands octets) (whole j) [] all (All-nil (Stands octets)))).is;
        short = ap (λ rs. fits j.limit (length rs)) read ∙ short (length j.table) (omega arith);
      };
      next = λ octets' have. short (length (reduced (read_in octets'))) (names_fit j.table (read_in octets') have);
    }

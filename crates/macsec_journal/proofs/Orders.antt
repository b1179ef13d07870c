-- Orders are carried out.
use Rattle.std.proofs.{
  Common.{◌≡◌, ℕ, ◌+◌, ◌*◌, ◌/◌, ◌^◌, ◌≤◌, ◌<◌, ◌∙◌, ap, arith, All, Bool, false, true, ◌||◌, if◌then◌else◌, List, []},
  Common.{◌∷◌, length, lt-ltb, nat_lt, not, refl, sym, subst},
  lemmas.{Bool.{and_from, lt-leb, or_parts}, List.Elements.{All-head, All-tail}},
}
use Rattle.macsec_reserve.specs.{
  Crashes.IsReservation,
  Entries.{has_entry, with_all},
  declared.reservation.Reservation.Reservation,
}
use Rattle.macsec_journal.proofs.Pieces.{twice_long}
use Rattle.macsec_journal.specs.{
  Disk.end_of,
  Format.fits,
  Laws.{CarriesOut, IsCarriedOut, after_calls, append_calls, replacement_calls},
  Machine.{Journal, appended, appending, ends_behind_limit, is_full, is_replaced, new_among, ordering, replacing},
  Machine.with_order,
  declared.step.Step.Step,
}

-- an order that fits, by the test of whether it replaces the file
by_tests : (calls : List Step) (durable rs : List Reservation) (anew : Bool) (j : Journal) (full again b : Bool) → full
    ≡ false → again ≡ b →
    IsCarriedOut calls durable (if b then replacing rs j else appending rs j) → IsCarriedOut calls durable
    (if full then j else if again then replacing rs j else appending rs j)
by_tests calls durable rs anew j true again b fit is it = cc
by_tests calls durable rs anew j false again b fit is it =
    subst (λ (x : Bool). IsCarriedOut calls durable (if x then replacing rs j else appending rs j)) (sym is) it

replaced_anyway : (doubt : Bool) → (doubt || true) ≡ true
replaced_anyway true = refl
replaced_anyway false = refl

all_fit_in : (limit count : ℕ) → 128 + 64 * count ≤ limit → count < 2 ^ 64 → fits limit count ≡ true
all_fit_in limit count short few =
    and_from (nat_lt (count + 1) (limit / 64)) (nat_lt count (2 ^ 64))
    (lt-ltb (count + 1) (limit / 64) (omega (arith, short)))
    (lt-ltb count (2 ^ 64) few)

is_taken : (rs : List Reservation) (j : Journal) → 64 * length rs + 64 ≤ j.limit →
    128 + 64 * (length j.table + length (new_among j.table rs)) ≤ j.limit →
    length j.table + length (new_among j.table rs) < 2 ^ 64 → is_full rs j ≡ false
is_taken rs j few short small =
    let count : ℕ = length j.table + length (new_among j.table rs) in
    ap (λ (b : Bool). b || not (fits j.limit count)) (lt-leb (j.limit / 64) (length rs) (omega (arith, few)))
    ∙ ap not (all_fit_in j.limit count short small)

none_new : (rs table : List Reservation) → All (λ (r : Reservation). has_entry table r.name ≡ true) rs →
    new_among table rs ≡ []
none_new [] table have = refl
none_new (r ∷ rs) table have =
    ap (λ (b : Bool). if not b then r ∷ new_among table rs else new_among table rs)
    (All-head (λ (x : Reservation). has_entry table x.name ≡ true) r rs have)
    ∙ none_new rs table (All-tail (λ (x : Reservation). has_entry table x.name ≡ true) r rs have)

-- the file's end after an append
ends_there : (rs : List Reservation) (anew : Bool) (j : Journal) → All IsReservation rs → is_full rs j ≡ false →
    is_replaced rs anew j ≡ false →
    (after_calls 2 (ordering rs anew j)).end ≡ end_of (appended (ordering rs anew j))
ends_there rs anew j are fit is =
    let same : ordering rs anew j ≡ appending rs j =
    ap (λ (b : Bool). if b then j else with_order rs anew j) fit
    ∙ ap (λ (b : Bool). if b then replacing rs j else appending rs j) is in
    subst (λ x. (after_calls 2 x).end ≡ end_of (appended x)) (sym same)
    (ap (λ (n : ℕ). j.end + n) (sym (twice_long rs are)))

pub carries_out : CarriesOut
carries_out = record {
  replaces = λ rs anew j fit is. by_tests replacement_calls (with_all j.table rs) rs anew j _ _ true fit is
      (record { makes = refl; rests = refl; shows = refl; trusts = refl });
  appends = λ rs anew j fit is.
      by_tests append_calls rs rs anew j _ _ false fit is
      (record {
        makes = refl;
        rests = refl;
        shows = refl;
        trusts = (or_parts j.doubt (anew || ends_behind_limit rs j)
            is).0;
      });
  again = λ rs j. replaced_anyway j.doubt;
  takes = is_taken;
  known = none_new;
  fails = λ j. (refl, refl, refl);
  places = λ j. (refl, refl);
  looks = ends_there;
  fits = all_fit_in;
}

-- One entry for each name: all that a list of reservations says of the name.
use Rattle.std.specs.Prelude.{◌≡◌, ◌≢◌, List, [], ◌∷◌, ◌++◌, map, max, Bool, ℕ, if◌then◌else◌}
use Rattle.std.specs.List.{AllPairs, list_any}
use Rattle.macsec_gcm.specs.Octets.{same_octets}
use Rattle.macsec_reserve.specs.declared.reservation.Reservation.{Reservation}
use Rattle.macsec_reserve.specs.Journal.{highest}

-- an entry with a reservation's name is raised to the reservation's number
abbrev pub raised_by : Reservation → Reservation → Reservation
raised_by r entry = if same_octets entry.name r.name then record entry { last = max entry.last r.last } else entry

abbrev pub has_entry : List Reservation → List ℕ → Bool
has_entry entries name = list_any (λ entry. same_octets entry.name name) entries

-- the entries with one more reservation: the entry of its name is raised, or the reservation becomes an entry
abbrev pub with_one_more : List Reservation → Reservation → List Reservation
with_one_more entries r = if has_entry entries r.name then map (raised_by r) entries else entries ++ r ∷ []

abbrev pub with_all : List Reservation → List Reservation → List Reservation
with_all entries [] = entries
with_all entries (r ∷ rs) = with_all (with_one_more entries r) rs

-- one entry for each name of a list
abbrev pub reduced : List Reservation → List Reservation
reduced rs = with_all [] rs

-- the entries say of each name what the list says, and have each name once
pub record SaysTheSame (rs entries : List Reservation) : Type 0 where
  pub same : (name : List ℕ) → highest entries name ≡ highest rs name
  pub once : AllPairs (λ x y. x.name ≢ y.name) entries

-- Receive SCs in the order of their creation, and receive SAs (IEEE 802.1AE, 10.6 and 10.7).
use Rattle.std.specs.Prelude.{ℕ, List, [], find, map, ◌==◌, Bool, ◌&&◌, if◌then◌else◌, Option}
use Rattle.macsec_gcm.specs.Octets.{same_octets}
use Rattle.macsec_tag.specs.declared.identifiers.Sci.{Sci}
use Rattle.macsec_pn.specs.declared.RxNumbers.{RxNumbers}
use Rattle.macsec_rx.specs.declared.RxRow.{RxRow}

-- the SCIs of the SCs, and the SAs of all SCs
pub record Channels : Type 0 where
  pub scis : List Sci
  pub rows : List RxRow

abbrev pub no_channels : Channels
no_channels = record { scis = []; rows = [] }

abbrev pub same_sci : Sci → Sci → Bool
same_sci s t = same_octets s.0 t.0

-- the SA has this SCI and association number
abbrev pub is_at : Sci → ℕ → RxRow → Bool
is_at sci an row = same_sci row.sci sci && row.an == an

-- the SA with this SCI and association number
abbrev pub rx_row : List RxRow → Sci → ℕ → Option RxRow
rx_row rows sci an = find (λ row. is_at sci an row) rows

-- the SA, changed if it has this SCI and association number
abbrev pub at_place : (RxRow → RxRow) → Sci → ℕ → RxRow → RxRow
at_place change sci an row = if is_at sci an row then change row else row

-- the SAs, with that one changed
abbrev pub with_rx : (RxRow → RxRow) → Sci → ℕ → List RxRow → List RxRow
with_rx change sci an rows = map (at_place change sci an) rows

abbrev pub numbers_of : RxRow → RxNumbers
numbers_of row = record { next = row.next; lowest = row.lowest }

abbrev pub with_numbers : RxNumbers → RxRow → RxRow
with_numbers numbers row = record row { next = numbers.next; lowest = numbers.lowest }

-- The index of the SAs: where each is among the rows.
use Rattle.std.specs.Prelude.{◌≡◌, ℕ, suc, ◌+◌, ◌*◌, ◌<◌, ◌≤◌, List, [], ◌∷◌, length, true, if◌then◌else◌, slice_get, slice_index}
use Rattle.macsec_tag.specs.declared.identifiers.Sci.{Sci}
use Rattle.macsec_rx.specs.declared.RxRow.{RxRow}
use Rattle.macsec_rx.specs.declared.channels.Found.{Found}
use Rattle.macsec_rx.specs.Limits.{max_association_count, max_row_count}
use Rattle.macsec_rx.specs.Channels.{rx_row, same_sci}
use Rattle.macsec_rx.specs.Commands.{has_channel}

-- the index of an SC in the order of creation
abbrev pub channel_place : List Sci → Sci → ℕ
channel_place [] sci = 0
channel_place (s ∷ scis) sci = if same_sci s sci then 0 else suc (channel_place scis sci)

-- the position of an SA in the index, by its SCI and association number
abbrev pub slot : List Sci → Sci → ℕ → ℕ
slot scis sci an = 4 * channel_place scis sci + an

-- the entry for each SC and association number is the index of the SA among the rows, or an index past every possible
-- row if there is none; entries past the last SC also have that last index
pub record IsIndex (scis : List Sci) (rows : List RxRow) (places : List ℕ) : Type 0 where
  pub count : length places ≡ max_row_count
  pub finds : (sci : Sci) (an : ℕ) → has_channel scis sci ≡ true → an < max_association_count → rx_row rows sci an ≡ slice_get rows (slice_index places (slot scis sci an))
  pub within : (n : ℕ) → n < max_row_count → slice_index places n < max_row_count → slice_index places n < length rows
  pub free : (n : ℕ) → n < max_row_count → 4 * length scis ≤ n → slice_index places n ≡ max_row_count

-- the SA that was found, without its positions
abbrev pub row_of_found : Found → RxRow
row_of_found found = found.row

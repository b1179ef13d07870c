-- The invariant of receive SCs and their SAs.
use Rattle.std.specs.Prelude.{◌≡◌, ◌^◌, ◌<◌, ◌≤◌, List, [], ◌∷◌, length, None, true, false}
use Rattle.macsec_tag.specs.declared.identifiers.Sci.{Sci}
use Rattle.macsec_suite.specs.KeyNumbers.{max_key_count}
use Rattle.macsec_commands.specs.Scis.{IsSci}
use Rattle.macsec_rx.specs.declared.RxRow.{RxRow}
use Rattle.macsec_rx.specs.Limits.{max_channel_count, max_association_count}
use Rattle.macsec_rx.specs.Channels.{Channels, rx_row}
use Rattle.macsec_rx.specs.Commands.{has_channel}

-- the SA belongs to an SC, its association number is 0 to 3, its key number is below 4,096, its SSCI has 32 bits, its
-- next packet number is at most 2^64, and its lowest acceptable one is from 1 to the next one
pub record IsRxRow (scis : List Sci) (row : RxRow) : Type 0 where
  pub channel : has_channel scis row.sci ≡ true
  pub an : row.an < max_association_count
  pub key : row.key < max_key_count
  pub ssci : row.ssci < 2 ^ 32
  pub next : row.next ≤ 2 ^ 64
  pub lowest_least : 1 ≤ row.lowest
  pub lowest : row.lowest ≤ row.next

-- every SA has these bounds, and no two SAs of an SC have the same association number
abbrev pub AreRxRows : List Sci → List RxRow → Type 0
AreRxRows scis [] = Unit {0}
AreRxRows scis (row ∷ rows) = IsRxRow scis row × (rx_row rows row.sci row.an ≡ None) × AreRxRows scis rows

-- every SCI is valid, and no two are the same
abbrev pub AreScis : List Sci → Type 0
AreScis [] = Unit {0}
AreScis (sci ∷ scis) = IsSci sci × (has_channel scis sci ≡ false) × AreScis scis

pub record AreChannels (channels : Channels) : Type 0 where
  pub count : length channels.scis ≤ max_channel_count
  pub scis : AreScis channels.scis
  pub rows : AreRxRows channels.scis channels.rows

-- The invariant of the SAs of a transmit SC.
use Rattle.std.specs.Prelude.{◌≡◌, ◌^◌, ◌<◌, ◌≤◌, List, [], ◌∷◌, slice_get, option_map, IfSome, Option, Some, None}
use Rattle.macsec_suite.specs.KeyNumbers.{max_key_count}
use Rattle.macsec_tx.specs.declared.EnabledSa.{EnabledSa}
use Rattle.macsec_tx.specs.declared.TxRow.{TxRow}
use Rattle.macsec_tx.specs.Transmit.{row_on, tx_row}

-- the association number is 0 to 3, the key number is below 4,096, and the next packet number is 1 to 2^64
pub record IsTxRow (row : TxRow) : Type 0 where
  pub an : row.an < 4
  pub key : row.key < max_key_count
  pub next_least : 1 ≤ row.next
  pub next : row.next ≤ 2 ^ 64

-- every SA has these bounds, and no two have the same association number
abbrev pub AreTxRows : List TxRow → Type 0
AreTxRows [] = Unit {0}
AreTxRows (row ∷ rows) = IsTxRow row × (tx_row rows row.an ≡ None) × AreTxRows rows

-- the enabled SA, if there is one, is found at its index, and by its association number
pub record IsEnabled (rows : List TxRow) (enabled : Option EnabledSa) : Type 0 where
  pub on : option_map (λ (sa : EnabledSa). sa.row) enabled ≡ row_on rows
  pub at : IfSome enabled (λ sa. slice_get rows sa.index ≡ Some sa.row)
  pub number : IfSome enabled (λ sa. tx_row rows sa.row.an ≡ Some sa.row)

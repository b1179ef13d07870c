-- A law of protected frames.
use Rattle.std.specs.Prelude.{◌≡◌, ℕ, ◌+◌, ◌<◌, ◌≤◌, List, length}
use Rattle.macsec_tag.specs.Frame.{IsTagged}
use Rattle.macsec_tag.specs.Table.{reading, tagged}
use Rattle.macsec_suite.specs.KeyRows.{InstalledKey}
use Rattle.macsec_tx.specs.declared.TxRow.{TxRow}
use Rattle.macsec_tx.specs.declared.TxOptions.{TxOptions}
use Rattle.macsec_tag.specs.Limits.{min_frame_len}
use Rattle.macsec_tx.specs.Transmit.{octets_added, parts_sent, protected_frame, tag_sent}

-- the client frame has addresses and an EtherType, the association number is 0 to 3, and the SCI has 8 octets
pub record CanBeSent (options : TxOptions) (row : TxRow) (frame : List ℕ) : Type 0 where
  pub long : min_frame_len ≤ length frame
  pub an : row.an < 4
  pub sci : length options.sci.0 ≡ 8

-- the protected frame is tagged with the parts that were sent, is read as these parts, and has the octets of the client
-- frame and those that protection adds
pub record IsReadAsSent (options : TxOptions) (key : InstalledKey) (row : TxRow) (frame : List ℕ) : Type 0 where
  pub is_tagged : IsTagged (protected_frame options key row frame) (parts_sent options key row frame)
  pub parts : reading (protected_frame options key row frame) ≡ tagged (parts_sent options key row frame)
  pub octets : length (protected_frame options key row frame) ≡ length frame + octets_added (tag_sent options row frame)

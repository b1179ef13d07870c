-- Laws of a step: keys are distinct, and what a step keeps of keys and of receive SAs.
use Rattle.std.specs.Prelude.{◌≡◌, ◌≤◌, ℕ, List, ◌==◌, ◌&&◌, Bool, false, Some, IsSome, Contains}
use Rattle.std.specs.List.{All}
use Rattle.macsec_tag.specs.declared.identifiers.Sci.{Sci}
use Rattle.macsec_suite.specs.KeyRows.{InstalledKey, IsKeyRow, key_row, the_key}
use Rattle.macsec_rx.specs.declared.RxRow.{RxRow}
use Rattle.macsec_rx.specs.Channels.{rx_row, same_sci}
use Rattle.macsec_commands.specs.declared.command.Command.{Command}
use Rattle.macsec_commands.specs.declared.command.Command.TheVariants.{RxScDel, RxDel}
use Rattle.macsec_secy.specs.State.{State}
use Rattle.macsec_secy.specs.Step.{Input, operator_command, step}

-- ---- keys

-- this key is in the table, with this number
pub record IsKeyOf (keys : List InstalledKey) (n : ℕ) (key : InstalledKey) : Type 0 where
  pub there : Contains keys key
  pub number : key.number ≡ n

-- each key meets the bounds of a row; it is found by its number, and a key found by a number has that number; keys with
-- the same bytes are the same key
pub record KeysAreApart (keys : List InstalledKey) : Type 0 where
  pub rows : All IsKeyRow keys
  pub by_number : (key : InstalledKey) → Contains keys key → key_row keys key.number ≡ Some key
  pub found : (number : ℕ) → IsSome (key_row keys number) → IsKeyOf keys number (the_key keys number)
  pub by_bytes : (x y : InstalledKey) → Contains keys x → Contains keys y → x.bytes ≡ y.bytes → x ≡ y

-- the key later: all of these fields are as it was installed, and its first unused packet number has not fallen
pub record IsLaterKey (key later : InstalledKey) : Type 0 where
  pub number : later.number ≡ key.number
  pub suite : later.suite ≡ key.suite
  pub bytes : later.bytes ≡ key.bytes
  pub salt : later.salt ≡ key.salt
  pub ssci : later.ssci ≡ key.ssci
  pub offset : later.offset ≡ key.offset
  pub first_unused : key.first_unused ≤ later.first_unused

pub record KeyStaysIn (keys : List InstalledKey) (key : InstalledKey) : Type 0 where
  pub later : InstalledKey
  pub there : Contains keys later
  pub is_later : IsLaterKey key later

-- the configuration is the same, and each key stays
pub record KeysStay (s after : State) : Type 0 where
  pub config : after.config ≡ s.config
  pub keys : (key : InstalledKey) → Contains s.keys key → KeyStaysIn after.keys key

-- ---- receive SAs

-- each SA is found by its SC and number
abbrev pub RxRowsAreApart : List RxRow → Type 0
RxRowsAreApart rows = (row : RxRow) → Contains rows row → rx_row rows row.sci row.an ≡ Some row

-- the command deletes the SA with this SC and number, if it exists
abbrev pub deletes : Sci → ℕ → Command → Bool
deletes sci an (RxScDel of_sci) = same_sci sci of_sci
deletes sci an (RxDel of_sci of_an) = same_sci sci of_sci && an == of_an
deletes sci an c = false

abbrev pub is_deleting : Sci → ℕ → Input → Bool
is_deleting sci an (operator_command c) = deletes sci an c
is_deleting sci an input = false

-- the SA with this SC and number exists, and its next packet number is at least n
pub record IsAbove (rows : List RxRow) (sci : Sci) (an n : ℕ) : Type 0 where
  pub row : RxRow
  pub there : rx_row rows sci an ≡ Some row
  pub above : n ≤ row.next

-- until it is deleted, an SA with its SC and number exists, and its next packet number is no lower
abbrev pub RxRowStays : State → Input → Sci → ℕ → ℕ → Type 0
RxRowStays s input sci an n = is_deleting sci an input ≡ false → IsAbove s.rx.rows sci an n → IsAbove (step s input).1.rx.rows sci an n

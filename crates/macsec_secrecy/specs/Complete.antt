-- That the definitions leave nothing out: each input is listed, functions are counted by their values at blocks, and
-- all encrypted octets may differ.
use Rattle.std.specs.Prelude.{◌≡◌, ◌≢◌, ◌↔◌, ℕ, ◌+◌, ◌*◌, ◌<◌, List, length, take, true, Contains}
use Rattle.std.specs.List.{All, AllPairs}
use Rattle.macsec_suite.specs.CipherUses.{CipherUse}
use Rattle.macsec_suite.specs.KeyRows.{InstalledKey}
use Rattle.macsec_tx.specs.declared.TxOptions.{TxOptions}
use Rattle.macsec_tx.specs.declared.TxRow.{TxRow}
use Rattle.macsec_secrecy.specs.BlockFunctions.{AreBlocks}
use Rattle.macsec_secrecy.specs.Inputs.{inputs_of, inputs_of_uses, most_inputs}
use Rattle.macsec_secrecy.specs.Pads.{Differ, HideEachOther, Message, shown_by}
use Rattle.macsec_secrecy.specs.Runs.{AgreeInClear}

-- the inputs of some uses have each input of each of them
abbrev pub InputsOfUsesHaveAll : Type 0
InputsOfUsesHaveAll = (uses : List CipherUse) (u : CipherUse) → Contains uses u
    → All (Contains (inputs_of_uses uses)) (inputs_of u.iv (length u.ciphertext))

-- no smaller bound holds of all uses: texts of 16 m octets have as many inputs
abbrev pub NumberIsReached : Type 0
NumberIsReached = (m : ℕ) (uses : List CipherUse) → All (λ u. length u.ciphertext ≡ 16 * m) uses
    → length (inputs_of_uses uses) ≡ most_inputs m (length uses)

-- functions differ exactly if they have different values at a block
abbrev pub DifferAtBlocks : Type 0
DifferAtBlocks = (f g : List ℕ → List ℕ)
    → Differ f g ↔ ((x : List ℕ) × (length x ≡ 16) × All (λ o. o < 256) x × (f x ≢ g x))

-- if messages hide each other, as many functions show of the others what some functions show of the first
abbrev pub AsManyIfHidden : Type 0
AsManyIfHidden = (ms ns : List Message) → HideEachOther ms ns
    → (shown : List (List ℕ × List ℕ)) (fs : List (List ℕ → List ℕ))
    → All AreBlocks fs → AllPairs Differ fs → All (λ f. shown_by f ms ≡ shown) fs
    → (gs : List (List ℕ → List ℕ)) × (length gs ≡ length fs) × All AreBlocks gs × AllPairs Differ gs
    × All (λ g. shown_by g ns ≡ shown) gs

-- if the SA encrypts, two client frames of one length may differ in all octets after the addresses and the
-- confidentiality offset
abbrev pub EncryptedOctetsMayDiffer : Type 0
EncryptedOctetsMayDiffer = (options : TxOptions) (key : InstalledKey) (row : TxRow) (frame other : List ℕ)
    → row.conf ≡ true → length frame ≡ length other → take (12 + key.offset) frame ≡ take (12 + key.offset) other
    → AgreeInClear options key row frame other

-- A new key that may take the number of a retired key, and its row.
use Rattle.std.specs.Prelude.{◌≡◌, ◌⊎◌, ℕ, false, not, Option, Some, None}
use Rattle.macsec_aes.specs.Keys.{key_bytes}
use Rattle.macsec_suite.specs.declared.key_row.NewKey.{NewKey}
use Rattle.macsec_suite.specs.declared.refusal.Refusal.{Refusal}
use Rattle.macsec_suite.specs.KeyRows.{key_row, suite_of}
use Rattle.macsec_suite.specs.Refusals.{first_refusal, is_number_used, is_repeated}
use Rattle.macsec_suite.specs.Renewing.{add_refusals, keys_added}
use Rattle.macsec_secy.specs.Commands.{uses}
use Rattle.macsec_secy.specs.GivenUp.{IsGivenUp}
use Rattle.macsec_secy.specs.State.{State}

-- why a new key is refused, if it is: as by the command, except that its number may be the number of a retired key that no
-- SA uses
abbrev pub renewal_refusal : State → NewKey → Option Refusal
renewal_refusal s key = first_refusal (add_refusals (not (uses s key.number)) (suite_of s.config.suite key) s.options.window s.keys key)

-- the state with the new key: in the row of the retired key, or in one at the end. Nothing else changes
abbrev pub renewing : NewKey → State → State
renewing key s = record s { keys = keys_added (not (uses s key.number)) (suite_of s.config.suite key) s.keys key }

abbrev pub unless_not_renewed : Option Refusal → NewKey → State → State
unless_not_renewed None key s = renewing key s
unless_not_renewed (Some r) key s = s

abbrev pub state_after_renewing : NewKey → State → State
state_after_renewing key s = unless_not_renewed (renewal_refusal s key) key s

-- ---- what renewing keeps

-- every other key stays as it is, with its first unused packet number
abbrev pub KeepsOtherKeys : State → NewKey → ℕ → Type 0
KeepsOtherKeys s key n = (n ≡ key.number → ⊥) → key_row (state_after_renewing key s).keys n ≡ key_row s.keys n

-- and so does everything but the keys: SAs with their packet numbers, options and counters
abbrev pub KeepsAllButKeys : State → NewKey → Type 0
KeepsAllButKeys s key = state_after_renewing key s ≡ record s { keys = (state_after_renewing key s).keys }

-- a number is taken only if no key has it, or if its key is retired and no SA uses it
abbrev pub TakesNoKeyInUse : State → NewKey → Type 0
TakesNoKeyInUse s key = renewal_refusal s key ≡ None → (is_number_used s.keys key.number ≡ false) ⊎ IsGivenUp s key.number

-- no key in the table has the octets of a key that is taken, retired or not
abbrev pub TakesNewOctets : State → NewKey → Type 0
TakesNewOctets s key = renewal_refusal s key ≡ None → is_repeated s.keys (key_bytes key.bytes) ≡ false

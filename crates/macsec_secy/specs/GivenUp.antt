-- What the octets of a key decide once the key is retired: only the refusal KeyRepeated.
use Rattle.std.specs.Prelude.{◌≡◌, ℕ, List, true, false, if◌then◌else◌}
use Rattle.macsec_suite.specs.declared.key_row.NewKey.{NewKey}
use Rattle.macsec_suite.specs.declared.suite.Suite.TheVariants.{Gcm128}
use Rattle.macsec_suite.specs.KeyRows.{keys_replacing, new_row}
use Rattle.macsec_suite.specs.Refusals.{is_repeated, is_retired}
use Rattle.macsec_suite.specs.Replacing.{can_replace}
use Rattle.macsec_commands.specs.declared.command.Command.TheVariants.{Key, Retire}
use Rattle.macsec_secy.specs.Commands.{uses}
use Rattle.macsec_secy.specs.State.{State}
use Rattle.macsec_secy.specs.Step.{Input, operator_command, done, step}

-- the key is retired, and no SA uses it
pub record IsGivenUp (s : State) (n : ℕ) : Type 0 where
  pub retired : is_retired s.keys n ≡ true
  pub unused : uses s n ≡ false

-- so it is from the moment at which it is retired
abbrev pub GivesUp : State → ℕ → Type 0
GivesUp s n = (step s (operator_command (Retire n))).0 ≡ done → IsGivenUp (step s (operator_command (Retire n))).1 n

abbrev pub StaysGivenUp : State → ℕ → Input → Type 0
StaysGivenUp s n input = IsGivenUp s n → IsGivenUp (step s input).1 n

-- the state, except that the key of this number has these octets
abbrev pub replacing : ℕ → List ℕ → State → State
replacing n bytes s = record s { keys = keys_replacing s.keys n bytes }

-- the state after the key of this number gets these octets: unchanged if they may not replace its own
abbrev pub state_after_replacing : ℕ → List ℕ → State → State
state_after_replacing n bytes s = if can_replace s.keys n bytes then replacing n bytes s else s

-- a key stays retired and unused when the octets of a key are replaced, its own or another's
abbrev pub StaysReplaced : State → ℕ → ℕ → List ℕ → Type 0
StaysReplaced s m n bytes = IsGivenUp s m → IsGivenUp (replacing n bytes s) m

-- the octets of a key to install, whatever its suite
abbrev pub new_bytes : NewKey → List ℕ
new_bytes key = (new_row Gcm128 key).bytes

-- if the input installs a key, both states have its octets, or neither has
abbrev pub RepeatsAlike : State → State → Input → Type 0
RepeatsAlike s t (operator_command (Key key)) = is_repeated s.keys (new_bytes key) ≡ is_repeated t.keys (new_bytes key)
RepeatsAlike s t input = Unit {0}

-- with other octets in its row the output is the same, and so is the state after it, except for those octets
abbrev pub StepsAlike : State → ℕ → List ℕ → Input → Type 0
StepsAlike s n bytes input =
    IsGivenUp s n → RepeatsAlike (replacing n bytes s) s input →
    step (replacing n bytes s) input ≡ ((step s input).0, replacing n bytes (step s input).1)

-- A keeping endpoint that forgets the octets of a key when it retires the key. It keeps a fingerprint instead, by which it
-- still refuses these octets.
use Rattle.std.specs.Prelude.{ℕ, List, [], ◌∷◌, ◌++◌, length, take, Bool, true, false, ◌&&◌, if◌then◌else◌, Option, Some, None}
use Rattle.macsec_aes.specs.Keys.{key_bytes}
use Rattle.macsec_aes.specs.declared.Key.{Key as KeyOctets}
use Rattle.macsec_aes.specs.declared.Key.TheVariants.{K128, K256}
use Rattle.macsec_suite.specs.CipherUses.{CipherUse}
use Rattle.macsec_suite.specs.KeyRows.{the_key}
use Rattle.macsec_suite.specs.Refusals.{has_retired}
use Rattle.macsec_suite.specs.Replacing.{can_replace}
use Rattle.macsec_suite.specs.declared.key_row.NewKey.{NewKey}
use Rattle.macsec_commands.specs.declared.command.Command.{Command}
use Rattle.macsec_commands.specs.declared.command.Command.TheVariants.{Key, Retire}
use Rattle.macsec_secy.specs.GivenUp.{replacing}
use Rattle.macsec_secy.specs.Step.{Input, Output, operator_command, done}
use Rattle.macsec_reserve.specs.Histories.{newly_sealed}
use Rattle.macsec_reserve.specs.Journal.{sending_name}
use Rattle.macsec_reserve.specs.Keeping.{Keeping, KeepingInput, KeepingOutput, endpoint_input, endpoint_output, for_each_key, keeping_step}

-- ---- fingerprints

-- the fingerprint of a key: the first octets of its name for sending, as many as the key has. The name is a digest, so the
-- fingerprint does not reveal the key
abbrev pub fingerprint : List ℕ → List ℕ → List ℕ
fingerprint salt bytes = take (length bytes) (sending_name salt bytes)

abbrev pub key_of_fingerprint : List ℕ → KeyOctets → KeyOctets
key_of_fingerprint salt (K128 bytes) = K128 (fingerprint salt bytes)
key_of_fingerprint salt (K256 bytes) = K256 (fingerprint salt bytes)

-- a key with these octets was forgotten: a retired key has their fingerprint
abbrev pub is_forgotten : Keeping → List ℕ → Bool
is_forgotten k bytes = has_retired k.secy.keys (fingerprint k.salt bytes)

-- ---- installing

-- a key to install, as the endpoint takes it: a forgotten key counts as its fingerprint. This is in the table, so the key
-- is refused as a repeated one
abbrev pub as_taken : Keeping → NewKey → NewKey
as_taken k key = if is_forgotten k (key_bytes key.bytes) then record key { bytes = key_of_fingerprint k.salt key.bytes } else key

abbrev pub command_taken : Keeping → Command → Command
command_taken k (Key key) = Key (as_taken k key)
command_taken k c = c

abbrev pub input_taken : Keeping → Input → Input
input_taken k (operator_command c) = operator_command (command_taken k c)
input_taken k input = input

abbrev pub taken : Keeping → KeepingInput → KeepingInput
taken k (endpoint_input input) = endpoint_input (input_taken k input)
taken k input = input

-- ---- forgetting

-- the fingerprint of the key of this number
abbrev pub fingerprint_of : Keeping → ℕ → List ℕ
fingerprint_of k n = fingerprint k.salt (the_key k.secy.keys n).bytes

-- the key is retired, and no key has its fingerprint
abbrev pub can_forget : Keeping → ℕ → Bool
can_forget k n = can_replace k.secy.keys n (fingerprint_of k n)

-- the key's fingerprint replaces its octets. What was reported durable for each key stays under the name that the key has
-- now
abbrev pub forgetting : Keeping → ℕ → Keeping
forgetting k n = record k {
  secy = replacing n (fingerprint_of k n) k.secy;
  granted = for_each_key k.salt k.granted k.secy.keys;
}

-- the number of the key that an input retires
abbrev pub retired_by : KeepingInput → Option ℕ
retired_by (endpoint_input (operator_command (Retire n))) = Some n
retired_by input = None

abbrev pub is_done_output : Output → Bool
is_done_output done = true
is_done_output output = false

abbrev pub is_done : KeepingOutput → Bool
is_done (endpoint_output output) = is_done_output output
is_done output = false

-- a key that is retired is forgotten, if it can be
abbrev pub then_forget : Option ℕ → KeepingOutput × Keeping → KeepingOutput × Keeping
then_forget None answer = answer
then_forget (Some n) answer = (answer.0, if is_done answer.0 && can_forget answer.1 n then forgetting answer.1 n else answer.1)

-- ---- steps

-- the keeping endpoint's step, except that it refuses forgotten keys, and forgets a key that it retires
abbrev pub forgetting_step : Keeping → KeepingInput → KeepingOutput × Keeping
forgetting_step k input = then_forget (retired_by input) (keeping_step k (taken k input))

-- after a list of inputs
abbrev pub forgetting_after : Keeping → List KeepingInput → Keeping
forgetting_after k [] = k
forgetting_after k (input ∷ inputs) = forgetting_after (forgetting_step k input).1 inputs

-- the uses of the cipher that are sealed from a moment on
abbrev pub sealed_forgetting : Keeping → List KeepingInput → List CipherUse
sealed_forgetting k [] = []
sealed_forgetting k (input ∷ inputs) = newly_sealed k input ++ sealed_forgetting (forgetting_step k input).1 inputs

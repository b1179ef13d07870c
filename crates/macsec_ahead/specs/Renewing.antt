-- An endpoint that takes a new key under the number of a retired one.
use Rattle.std.specs.Prelude.{◌&&◌, Bool, true, false, if◌then◌else◌, Option, Some, None}
use Rattle.macsec_aes.specs.Keys.{key_bytes}
use Rattle.macsec_suite.specs.declared.key_row.NewKey.{NewKey}
use Rattle.macsec_suite.specs.declared.refusal.Refusal.{Refusal}
use Rattle.macsec_suite.specs.declared.refusal.Refusal.TheVariants.{KeyRepeated}
use Rattle.macsec_commands.specs.declared.command.Command.{Command}
use Rattle.macsec_commands.specs.declared.command.Command.TheVariants.{Key}
use Rattle.macsec_secy.specs.Step.{refused}
use Rattle.macsec_reserve.specs.Forgetting.{as_taken}
use Rattle.macsec_reserve.specs.Keeping.{endpoint_output}
use Rattle.macsec_reserve.specs.Renewing.{forgetting_refusal, is_given_up, keeping_renewed}
use Rattle.macsec_ahead.specs.Ahead.{Ahead, AheadOutput, command_forgetting, kept}
use Rattle.macsec_ahead.specs.Ends.{without_key}

-- with the new key. What was reported durable for receive SAs stays, and so do the ends of deleted SAs under other keys
abbrev pub ahead_renewed : NewKey → Ahead → Ahead
ahead_renewed key a = record a { k = keeping_renewed (as_taken a.k key) a.k; ended = without_key key.number a.ended; renews = true }

abbrev pub unless_refused : Option Refusal → NewKey → Ahead → Ahead
unless_refused None key a = ahead_renewed key a
unless_refused (Some r) key a = a

abbrev pub ahead_after_renewing : Ahead → NewKey → Ahead
ahead_after_renewing a key = unless_refused (forgetting_refusal a.k key) key a

-- ---- commands of an endpoint that has renewed a key

-- a command that installs octets which are given up. An endpoint that never renewed a key gives up none
abbrev pub installs_given_up : Ahead → Command → Bool
installs_given_up a (Key key) = a.renews && is_given_up a.k (key_bytes key.bytes)
installs_given_up a c = false

-- such a key is refused as a repeated one, before any other refusal, and nothing changes
abbrev pub unless_given_up : Bool → Ahead → Command → AheadOutput × Ahead
unless_given_up true a c = (kept (endpoint_output (refused KeyRepeated)), a)
unless_given_up false a c = command_forgetting a c

abbrev pub command_renewing : Ahead → Command → AheadOutput × Ahead
command_renewing a c = unless_given_up (installs_given_up a c) a c

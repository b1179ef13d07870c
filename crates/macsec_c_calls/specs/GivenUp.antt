-- Octets that are given up: a new key took the row of the key that had them. Each later call refuses them.
use Rattle.std.specs.Prelude.{◌≡◌, ◌⊎◌, ℕ, List, [], ◌∷◌, true, None, Ok}
use Rattle.macsec_aes.specs.Keys.{key_bytes}
use Rattle.macsec_suite.specs.declared.key_row.NewKey.{NewKey}
use Rattle.macsec_suite.specs.declared.refusal.Refusal.TheVariants.{KeyRepeated}
use Rattle.macsec_suite.specs.KeyRows.{the_key}
use Rattle.macsec_suite.specs.RefusalNumbers.{number_of_refusal}
use Rattle.macsec_suite.specs.Refusals.{is_number_used}
use Rattle.macsec_commands.specs.declared.command.Command.{Command}
use Rattle.macsec_commands.specs.declared.command.Command.TheVariants.{Key}
use Rattle.macsec_secy.specs.Step.{client_frame, link_frame}
use Rattle.macsec_reserve.specs.declared.reservation.Reservation.{Reservation}
use Rattle.macsec_reserve.specs.Forgetting.{fingerprint}
use Rattle.macsec_reserve.specs.Keeping.{endpoint_input, now_durable}
use Rattle.macsec_reserve.specs.Renewing.{forgetting_refusal, is_given_up}
use Rattle.macsec_ahead.specs.Ahead.{Ahead, ahead_step}
use Rattle.macsec_ahead.specs.Renewing.{ahead_after_renewing, command_renewing}
use Rattle.macsec_c_calls.specs.Commands.{commanded, renewed}

-- the calls that change an endpoint
pub data Call : Type 0 where
  command : Command → Call
  renewal : NewKey → Call
  client : List ℕ → Call
  link : List ℕ → Call
  durable : Reservation → Call

abbrev pub after_call : Ahead → Call → Ahead
after_call e (command c) = (command_renewing e c).1
after_call e (renewal key) = ahead_after_renewing e key
after_call e (client frame) = (ahead_step e (endpoint_input (client_frame frame))).1
after_call e (link frame) = (ahead_step e (endpoint_input (link_frame frame))).1
after_call e (durable r) = (ahead_step e (now_durable r)).1

abbrev pub after_calls : Ahead → List Call → Ahead
after_calls e [] = e
after_calls e (call ∷ calls) = after_calls (after_call e call) calls

-- an endpoint that has renewed a key has given up these octets
abbrev pub AreGivenUp : Ahead → List ℕ → Type 0
AreGivenUp e bytes = (e.renews ≡ true) × (is_given_up e.k bytes ≡ true)

-- if a key is taken under a number that a key has, the octets of that key are given up, also if only their fingerprint
-- was left
abbrev pub GivesUp : Ahead → NewKey → List ℕ → Type 0
GivesUp e key bytes =
    forgetting_refusal e.k key ≡ None → is_number_used e.k.secy.keys key.number ≡ true →
    ((the_key e.k.secy.keys key.number).bytes ≡ bytes) ⊎ ((the_key e.k.secy.keys key.number).bytes
    ≡ fingerprint e.k.salt bytes) →
    AreGivenUp (ahead_after_renewing e key) bytes

-- and stay so
abbrev pub StayGivenUp : Ahead → List Call → List ℕ → Type 0
StayGivenUp e calls bytes = AreGivenUp e bytes → AreGivenUp (after_calls e calls) bytes

-- both calls that install a key refuse them, and change nothing
abbrev pub RefusesOctets : Ahead → NewKey → Type 0
RefusesOctets e key =
    AreGivenUp e (key_bytes key.bytes) →
    (commanded e (Ok (Key key)) ≡ (number_of_refusal KeyRepeated, e)) × (renewed e key ≡
    (number_of_refusal KeyRepeated, e))

-- Commands of which all are carried out, or none.
use Rattle.std.specs.Prelude.{◌≡◌, ◌^◌, ◌+◌, ℕ, max, nat_lt, List, [], ◌∷◌, if◌then◌else◌, Option, Some, None}
use Rattle.std.specs.Prelude.{option_map, Result, Ok, Err}
use Rattle.macsec_suite.specs.KeyTables.{first_unused_of}
use Rattle.macsec_suite.specs.KeyRows.{key_row}
use Rattle.macsec_suite.specs.declared.key_row.NewKey.{NewKey}
use Rattle.macsec_suite.specs.declared.refusal.Refusal.{Refusal}
use Rattle.macsec_suite.specs.declared.refusal.Refusal.TheVariants.{PnFloor, PnRange}
use Rattle.macsec_commands.specs.declared.command.Command.{Command}
use Rattle.macsec_commands.specs.declared.command.Command.TheVariants.{Key, RxSa, TxSa}
use Rattle.macsec_secy.specs.Step.{refused}
use Rattle.macsec_reserve.specs.Keeping.{endpoint_output, tx_floor}
use Rattle.macsec_reserve.specs.Renewing.{forgetting_refusal}
use Rattle.macsec_ahead.specs.Ahead.{Ahead, AheadOutput, command_forgetting, dropped_before_this_run}
use Rattle.macsec_ahead.specs.Ahead.{dropped_not_reserved, floor_of, kept}
use Rattle.macsec_ahead.specs.Renewing.{ahead_after_renewing}

-- what becomes of a command: why it is refused, if it is; the packet number (PN) above its own at which its SA is to
-- begin, if there is one; and the endpoint after it
pub record Loaded : Type 0 where
  pub refusal : Option Refusal
  pub raised : Option ℕ
  pub after : Ahead

-- ---- one command

abbrev pub refusal_in : AheadOutput → Option Refusal
refusal_in (kept (endpoint_output (refused r))) = Some r
refusal_in output = None

abbrev pub key_in : Command → Option NewKey
key_in (Key key) = Some key
key_in c = None

-- a new key may take the row of a retired one; every other command is carried out by an endpoint that forgets retired
-- keys
abbrev pub carried_out_with : Option NewKey → Ahead → Command → Option Refusal × Ahead
carried_out_with (Some key) a c = (forgetting_refusal a.k key, ahead_after_renewing a key)
carried_out_with None a c = let answer = command_forgetting a c in (refusal_in answer.0, answer.1)

abbrev pub carried_out : Ahead → Command → Option Refusal × Ahead
carried_out a c = carried_out_with (key_in c) a c

-- ---- an SA at or below its floor

abbrev pub above : Option ℕ → ℕ
above None = 0
above (Some last) = last + 1

abbrev pub or_none : Option ℕ → ℕ
or_none None = 0
or_none (Some n) = n

abbrev pub in_64_bits : ℕ → Option ℕ
in_64_bits n = if nat_lt n (2 ^ 64) then Some n else None

-- the lowest PN above all that may have been used under the key of an SA which a command creates; or above `floor_of`
abbrev pub first_free : Ahead → Command → Option ℕ
first_free a (TxSa an key next conf) =
    in_64_bits (max (or_none (option_map first_unused_of (key_row a.k.secy.keys key))) (above (tx_floor a.k key)))
first_free a (RxSa sci an key ssci lowest) = in_64_bits (above (floor_of sci an a key))
first_free a c = None

-- the command that creates the SA at this PN
abbrev pub beginning_at : ℕ → Command → Command
beginning_at n (TxSa an key next conf) = TxSa an key n conf
beginning_at n (RxSa sci an key ssci lowest) = RxSa sci an key ssci n
beginning_at n c = c

-- a PN above the suite's last one: none is left to the key
abbrev pub none_left : Option Refusal → Option Refusal
none_left (Some PnRange) = Some PnFloor
none_left r = r

-- the SA begins at this PN, if there is one
abbrev pub beginning_above : Option ℕ → Ahead → Command → Loaded
beginning_above None a c = record { refusal = Some PnFloor; raised = None; after = a }
beginning_above (Some n) a c =
    let answer = carried_out a (beginning_at n c) in
    record { refusal = none_left answer.0; raised = Some n; after = answer.1 }

-- refused at its floor, a command begins its SA above it
abbrev pub unless_too_low : Command → Option Refusal → Ahead → Loaded
unless_too_low c (Some PnFloor) a = beginning_above (first_free a c) a c
unless_too_low c r a = record { refusal = r; raised = None; after = a }

-- no command does nothing
abbrev pub loaded : Ahead → Option Command → Loaded
loaded a None = record { refusal = None; raised = None; after = a }
loaded a (Some c) = let answer = carried_out a c in unless_too_low c answer.0 answer.1

-- of a call: the refusal or where the SA begins, and the endpoint after it, unless memory ran out
abbrev pub IsLoaded : Loaded → Result ℕ Refusal → Ahead → Type 0
IsLoaded it (Ok n) after = (it.refusal ≡ None) × (n ≡ or_none it.raised) × (after ≡ it.after)
IsLoaded it (Err r) after = (it.refusal ≡ Some r) × (after ≡ it.after)

-- ---- all of them

abbrev pub refused_at : ℕ → Option Refusal → Option (ℕ × Refusal) → Option (ℕ × Refusal)
refused_at i (Some r) later = Some (i, r)
refused_at i None later = later

-- the first command that is refused, by its place, the first of which is `i`; and why
abbrev pub first_refused : ℕ → Ahead → List (Option Command) → Option (ℕ × Refusal)
first_refused i a [] = None
first_refused i a (c ∷ cs) = refused_at i (loaded a c).refusal (first_refused (i + 1) (loaded a c).after cs)

abbrev pub after_all : Ahead → List (Option Command) → Ahead
after_all a [] = a
after_all a (c ∷ cs) = after_all (loaded a c).after cs

-- where the SA of each command begins, if that is above its own PN; otherwise 0
abbrev pub begins_of : Ahead → List (Option Command) → List ℕ
begins_of a [] = []
begins_of a (c ∷ cs) = or_none (loaded a c).raised ∷ begins_of (loaded a c).after cs

-- what a load says of the command that it refuses
abbrev pub refused_of : {A : Type 0} → Result A (ℕ × Refusal) → Option (ℕ × Refusal)
refused_of (Ok done) = None
refused_of (Err at) = Some at

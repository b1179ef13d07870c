-- Calls that code makes (`calling`).
use Rattle.std.specs.Prelude.{ℕ, List, take}
use Rattle.macsec_secy.specs.Sound.{IsSound}
use Rattle.macsec_ahead.specs.Ahead.{Ahead}
use Rattle.macsec_c_calls.specs.GivenUp.{Call, after_calls, client, command, durable, link, renewal}
use Rattle.macsec_c_runs.specs.declared.calling.MadeCall.{MadeCall}
use Rattle.macsec_c_runs.specs.declared.calling.MadeCall.TheVariants.{Client, Command, Durable, Link, Renewal}

-- the call of a run that a call of the code is
abbrev pub call_of : MadeCall → Call
call_of (Command c) = command c
call_of (Renewal key) = renewal key
call_of (Client frame) = client frame.now
call_of (Link frame) = link frame.now
call_of (Durable r) = durable r

abbrev pub IsRenewal : MadeCall → Type 0
IsRenewal (Renewal key) = Unit {0}
IsRenewal other = ⊥

-- the endpoint is sound after the first n calls, for each n
abbrev pub StaysSound : Ahead → List Call → Type 0
StaysSound e calls = (n : ℕ) → IsSound (after_calls e (take n calls)).k.secy

-- The runs of an end: each has the option to reserve ahead of receiving, or it does not.
use Rattle.std.specs.Prelude.{ℕ, suc, List, [], ◌∷◌, map, Bool, Option, Some, None, IfSome, Contains}
use Rattle.macsec_commands.specs.declared.event.End.{End}
use Rattle.macsec_secy.specs.Step.{link_frame}
use Rattle.macsec_link.specs.Genuine.{use_opened}
use Rattle.macsec_reserve.specs.Histories.{KeepsDurable, Run, SameSalt}
use Rattle.macsec_reserve.specs.Keeping.{KeepingInput, endpoint_input}
use Rattle.macsec_ahead.specs.Ahead.{Ahead}
use Rattle.macsec_restarts.specs.Happenings.{Happening, runs_of}
use Rattle.macsec_restarts.specs.Sent.{SentIn}
use Rattle.macsec_restarts.specs.Used.{seal_of}

-- a run, and whether its endpoint reserves ahead of receiving
pub record RunWith : Type 0 where
  pub ahead : Bool
  pub run : Run

-- of these runs the one after n others has the option `ahead n`
abbrev pub runs_with : (ℕ → Bool) → List Run → List RunWith
runs_with ahead [] = []
runs_with ahead (run ∷ runs) = record { ahead = ahead 0; run = run } ∷ runs_with (λ n. ahead (suc n)) runs

-- the runs of an end, the oldest first
abbrev pub runs_at : (End → ℕ → Bool) → End → List Happening → List RunWith
runs_at ahead e events = runs_with (ahead e) (runs_of e events)

abbrev pub last_of : List RunWith → Option RunWith
last_of [] = None
last_of (r ∷ []) = Some r
last_of (r ∷ later ∷ more) = last_of (later ∷ more)

-- what the endpoint opens is among these uses of the cipher
abbrev pub IsGenuineFrom : List SentIn → Ahead → KeepingInput → Type 0
IsGenuineFrom sends l (endpoint_input (link_frame frame)) =
    IfSome (use_opened l.k.secy frame) (Contains (map seal_of sends))
IsGenuineFrom sends l other = Unit {0}

-- the later run reads what was reported durable to the earlier one
abbrev pub ReadsDurable : RunWith → RunWith → Type 0
ReadsDurable r later = SameSalt r.run later.run × KeepsDurable r.run later.run

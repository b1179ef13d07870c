-- The beginnings of a list of events: facts about the events up to each moment, whatever comes later.
use Rattle.std.specs.Prelude.{ℕ, List, take}
use Rattle.macsec_commands.specs.declared.config.EndConfig.{EndConfig}
use Rattle.macsec_commands.specs.declared.event.Event.{Event}
use Rattle.macsec_link.specs.Sound.{IsSound}
use Rattle.macsec_link.specs.Step.{world_after}
use Rattle.macsec_link.specs.World.{WorldState, new_world}

-- a world is sound, and stays sound after each of the events
abbrev pub StaysSound : WorldState → List Event → Type 0
StaysSound w events = (k : ℕ) → IsSound (world_after w (take k events))

-- the world of two new ends is sound at each moment
abbrev pub AreSound : EndConfig → EndConfig → List Event → Type 0
AreSound a b events = StaysSound (new_world a b) events

-- at each moment a law holds of the events up to then; so it also holds of all events
abbrev pub AtEachMoment : (EndConfig → EndConfig → List Event → Type 0) → EndConfig → EndConfig → List Event → Type 0
AtEachMoment law a b events = (k : ℕ) → law a b (take k events)

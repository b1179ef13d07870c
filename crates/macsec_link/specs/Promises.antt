-- The four promises of a run of two ends, as seven facts, and what a forged tag needs. The comment at each definition
-- states it with its premises.
use Rattle.std.specs.Prelude.{List}
use Rattle.macsec_commands.specs.declared.config.EndConfig.{EndConfig}
use Rattle.macsec_commands.specs.declared.event.Event.{Event}
use Rattle.macsec_link.specs.Beginnings.{AtEachMoment}
use Rattle.macsec_link.specs.UniqueIvs.{RepeatsNoIv, SealsEachFrame}
use Rattle.macsec_link.specs.Window.{KeepsWindow, MarksEachFrame}
use Rattle.macsec_link.specs.Origin.{ComesFromOther, ComesInOrder}
use Rattle.macsec_link.specs.Forgery.{GenuineOrForged}
use Rattle.macsec_link.specs.Acceptance.{AcceptsInTime}

-- each holds at each moment, for the events up to then
pub record KeepsPromises (a b : EndConfig) (events : List Event) : Type 0 where
  -- no IV is used twice under a key's bytes; the uses of the cipher are those for the frames that were sent
  pub unique_ivs : AtEachMoment RepeatsNoIv a b events
  pub seals : AtEachMoment SealsEachFrame a b events
  -- the replay window holds; its packet numbers belong to the frames that were delivered
  pub window : KeepsWindow a b events
  pub marks : AtEachMoment MarksEachFrame a b events
  -- what a strict end delivers was sent by the other end, and in that order
  pub origin : AtEachMoment ComesFromOther a b events
  pub order : AtEachMoment ComesInOrder a b events
  -- no tag is forged, which these two ask for, or a first one is and needs one of few hash keys
  pub genuine_or_forged : AtEachMoment GenuineOrForged a b events
  -- what was sent and arrives in time is accepted
  pub acceptance : AcceptsInTime a b events

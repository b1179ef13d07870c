-- What the law of order is about: strict order at the receiver, and client frames with their packet numbers (PNs).
use Rattle.std.specs.Prelude.{◌≡◌, ℕ, List, ◌∷◌, true}
use Rattle.macsec_commands.specs.declared.mode.Mode.TheVariants.{Strict}
use Rattle.macsec_secy.specs.State.{State}
use Rattle.macsec_restarts.specs.Delivered.{Delivery}
use Rattle.macsec_restarts.specs.Sent.{SentIn}

-- the end validates strictly and drops late frames, at a replay window of 0
pub record HasStrictOrder (s : State) : Type 0 where
  -- the initial options of an endpoint
  pub mode : s.options.mode ≡ Strict
  pub replay : s.options.replay ≡ true
  pub window : s.options.window ≡ 0

-- a client frame after its PN, so that two client frames with equal octets differ
abbrev pub numbered_delivery : Delivery → List ℕ
numbered_delivery d = d.number ∷ d.frame

abbrev pub numbered_sent : SentIn → List ℕ
numbered_sent x = x.number ∷ x.frame

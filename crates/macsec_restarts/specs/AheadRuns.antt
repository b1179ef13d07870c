-- What an endpoint that can reserve ahead of receiving delivers and accepts.
use Rattle.std.specs.Prelude.{◌≡◌, ◌==◌, ℕ, List, [], ◌∷◌, ◌++◌, Bool, false, if◌then◌else◌, Some}
use Rattle.macsec_secy.specs.Reception.{judgement_of}
use Rattle.macsec_secy.specs.State.{State}
use Rattle.macsec_secy.specs.Step.{link_frame, received}
use Rattle.macsec_reserve.specs.Journal.{receiving_name, sending_name}
use Rattle.macsec_reserve.specs.Keeping.{KeepingInput, endpoint_input, endpoint_output}
use Rattle.macsec_ahead.specs.Ahead.{Ahead, AheadOutput, ahead_step, kept, lets_through}
use Rattle.macsec_restarts.specs.Delivered.{Delivery, IsOneDelivery, newly_delivered}

-- ---- what it delivers from receive SAs, in any mode

abbrev pub newly_delivered_with : Ahead → KeepingInput → List Delivery
newly_delivered_with a input = if lets_through a input then newly_delivered a.k input else []

-- what an input adds to the list, by its output: one entry if a client frame is delivered from an SA, otherwise none
abbrev pub MatchesDeliveriesWith : Ahead → KeepingInput → AheadOutput → Type 0
MatchesDeliveriesWith a input (kept (endpoint_output (received verdict (Some place) shown (Some delivered)))) =
    IsOneDelivery (newly_delivered_with a input) place.0 place.1 delivered
MatchesDeliveriesWith a input other = newly_delivered_with a input ≡ []

abbrev pub DeliversEachListedWith : Ahead → KeepingInput → Type 0
DeliversEachListedWith a input = MatchesDeliveriesWith a input (ahead_step a input).0

-- ---- what it accepts: what it delivers from valid frames

abbrev pub is_valid : State → KeepingInput → Bool
is_valid s (endpoint_input (link_frame frame)) = (judgement_of s frame).step == 13
is_valid s other = false

abbrev pub newly_accepted : Ahead → KeepingInput → List Delivery
newly_accepted a input = if is_valid a.k.secy input then newly_delivered_with a input else []

abbrev pub accepted_from : Ahead → List KeepingInput → List Delivery
accepted_from a [] = []
accepted_from a (input ∷ inputs) = newly_accepted a input ++ accepted_from (ahead_step a input).1 inputs

-- the name under which the PN of a delivery is reserved
abbrev pub delivery_name : List ℕ → Delivery → List ℕ
delivery_name salt d = receiving_name (sending_name salt d.bytes) d.sci d.an

-- two deliveries under the same key octets, from the same SCI and association number (AN)
pub record AreOfOneSa (d e : Delivery) : Type 0 where
  -- their client frames may differ
  pub bytes : d.bytes ≡ e.bytes
  pub sci : d.sci ≡ e.sci
  pub an : d.an ≡ e.an

-- What an end delivers from receive SAs, over its runs: each client frame with its SA and packet number (PN).
use Rattle.std.specs.Prelude.{◌≡◌, ◌==◌, ◌&&◌, ℕ, List, [], ◌∷◌, filter, Option, Some, None}
use Rattle.macsec_gcm.specs.Octets.{same_octets}
use Rattle.macsec_tag.specs.declared.identifiers.Sci.{Sci}
use Rattle.macsec_suite.specs.KeyRows.{the_key}
use Rattle.macsec_commands.specs.declared.mode.Mode.TheVariants.{Strict}
use Rattle.macsec_rx.specs.declared.RxRow.{RxRow}
use Rattle.macsec_rx.specs.Channels.{same_sci}
use Rattle.macsec_rx.specs.Judge.{Judgement}
use Rattle.macsec_secy.specs.declared.fault.FrameFault.{FrameFault}
use Rattle.macsec_secy.specs.Reception.{judgement_of}
use Rattle.macsec_secy.specs.State.{State}
use Rattle.macsec_secy.specs.Step.{frame_fault, link_frame, received}
use Rattle.macsec_reserve.specs.Keeping.{Keeping, KeepingInput, KeepingOutput, endpoint_input, endpoint_output}
use Rattle.macsec_reserve.specs.Keeping.{keeping_step}

-- ---- the list of what was delivered

-- a client frame that was delivered from a receive SA, in any mode: the octets of the SA's key, its SCI and association
-- number (AN), and the PN, which under an XPN suite is the recovered one of 64 bits
pub record Delivery : Type 0 where
  pub bytes : List ℕ
  pub sci : Sci
  pub an : ℕ
  pub number : ℕ
  pub frame : List ℕ

abbrev pub delivered_by : State → Judgement → Option FrameFault → Option RxRow → Option (List ℕ) → List Delivery
delivered_by s j None (Some row) (Some delivered) =
    record { bytes = (the_key s.keys row.key).bytes; sci = row.sci; an = row.an; number = j.number; frame = delivered }
    ∷ []
delivered_by s j fault row delivered = []

-- what an input adds to the list
abbrev pub newly_delivered : Keeping → KeepingInput → List Delivery
newly_delivered k (endpoint_input (link_frame frame)) =
    let j = judgement_of k.secy frame in delivered_by k.secy j (frame_fault frame) j.row j.delivered
newly_delivered k other = []

-- the deliveries from SAs of this SCI and AN, under a key with these octets
abbrev pub delivered_at : List ℕ → Sci → ℕ → List Delivery → List Delivery
delivered_at bytes sci an ds = filter (λ d. same_octets d.bytes bytes && same_sci d.sci sci && d.an == an) ds

-- ---- it is what comes out

pub record IsOneDelivery (ds : List Delivery) (sci : Sci) (an : ℕ) (delivered : List ℕ) : Type 0 where
  pub delivery : Delivery
  pub one : ds ≡ delivery ∷ []
  pub of_sci : delivery.sci ≡ sci
  pub of_an : delivery.an ≡ an
  pub of_frame : delivery.frame ≡ delivered

-- what an input adds to the list, by its output: one entry if a client frame is delivered from an SA, otherwise none
abbrev pub MatchesDeliveries : Keeping → KeepingInput → KeepingOutput → Type 0
MatchesDeliveries k input (endpoint_output (received verdict (Some place) shown (Some delivered))) =
    IsOneDelivery (newly_delivered k input) place.0 place.1 delivered
MatchesDeliveries k input other = newly_delivered k input ≡ []

abbrev pub DeliversEachListed : Keeping → KeepingInput → Type 0
DeliversEachListed k input = MatchesDeliveries k input (keeping_step k input).0

-- the output does not deliver a client frame at the controlled port without an SA
abbrev pub IsFromSa : KeepingOutput → Type 0
IsFromSa (endpoint_output (received verdict None shown (Some delivered))) = ⊥
IsFromSa other = Unit {0}

-- in the mode Strict only SAs deliver at the controlled port, so the list has all that is delivered (IEEE 802.1AE,
-- 10.6)
abbrev pub DeliversFromSas : Keeping → KeepingInput → Type 0
DeliversFromSas k input = k.secy.options.mode ≡ Strict → IsFromSa (keeping_step k input).0

-- What a run of an endpoint that renews keys gives out: its answers to the inputs, one for each, in their order. A
-- caller hands the frames in them to the link and to the client.
use Rattle.std.specs.Prelude.{◌≡◌, ℕ, List, [], ◌∷◌, ◌++◌, map, Option, Some, None}
use Rattle.macsec_tag.specs.declared.identifiers.Sci.{Sci}
use Rattle.macsec_suite.specs.CipherUses.{CipherUse}
use Rattle.macsec_commands.specs.declared.mode.Mode.TheVariants.{Strict}
use Rattle.macsec_secy.specs.Step.{leaves, received}
use Rattle.macsec_reserve.specs.Keeping.{KeepingInput, endpoint_output}
use Rattle.macsec_ahead.specs.Ahead.{Ahead, AheadOutput, kept}
use Rattle.macsec_restarts.specs.Delivered.{Delivery}
use Rattle.macsec_restarts.specs.Kept.{RunWith}
use Rattle.macsec_restarts.specs.RenewingOrder.{delivered_by_run}
use Rattle.macsec_restarts.specs.RenewingRuns.{ahead_renewing_step, opening_of, sent_by_run, states_of}
use Rattle.macsec_restarts.specs.Used.{seal_of}

abbrev pub outputs_from : Ahead → List KeepingInput → List AheadOutput
outputs_from a [] = []
outputs_from a (input ∷ inputs) = (ahead_renewing_step a input).0 ∷ outputs_from (ahead_renewing_step a input).1 inputs

abbrev pub outputs_of : RunWith → List AheadOutput
outputs_of r = outputs_from (opening_of r) r.run.inputs

-- ---- protected frames

abbrev pub protected_in : AheadOutput → List (List ℕ)
protected_in (kept (endpoint_output (leaves octets (Some key)))) = octets ∷ []
protected_in other = []

abbrev pub protected_frames : List AheadOutput → List (List ℕ)
protected_frames [] = []
protected_frames (output ∷ more) = protected_in output ++ protected_frames more

-- the octets of the frame that one use of the cipher protects
abbrev pub frame_of_use : CipherUse → List ℕ
frame_of_use u = u.aad ++ u.ciphertext ++ u.tag

-- the protected frames that a run gives out are those that are listed as sent, each once and in their order
abbrev pub SendsWhatIsListed : RunWith → Type 0
SendsWhatIsListed r = protected_frames (outputs_of r) ≡ map frame_of_use (map seal_of (sent_by_run r))

-- ---- client frames

-- a client frame that is delivered at the controlled port; the SCI and association number of its SA, if it has one
abbrev pub DeliveredFrame : Type 0
DeliveredFrame = Option (Sci × ℕ) × List ℕ

abbrev pub delivered_in_output : AheadOutput → List DeliveredFrame
delivered_in_output (kept (endpoint_output (received verdict place shown (Some frame)))) = (place, frame) ∷ []
delivered_in_output other = []

abbrev pub delivered_frames : List AheadOutput → List DeliveredFrame
delivered_frames [] = []
delivered_frames (output ∷ more) = delivered_in_output output ++ delivered_frames more

abbrev pub as_delivered : Delivery → DeliveredFrame
as_delivered d = (Some (d.sci, d.an), d.frame)

-- in the mode Strict the client frames that a run gives out are those that are listed as delivered, each once and in
-- their order
abbrev pub DeliversWhatIsListed : RunWith → Type 0
DeliversWhatIsListed r =
    ((n : ℕ) → (states_of r n).options.mode ≡ Strict) →
    delivered_frames (outputs_of r) ≡ map as_delivered (delivered_by_run r)

-- in any mode the same holds of those that are delivered from SAs
abbrev pub of_sas : List DeliveredFrame → List DeliveredFrame
of_sas [] = []
of_sas ((None, frame) ∷ more) = of_sas more
of_sas ((Some place, frame) ∷ more) = (Some place, frame) ∷ of_sas more

abbrev pub DeliversFromSasWhatIsListed : RunWith → Type 0
DeliversFromSasWhatIsListed r = of_sas (delivered_frames (outputs_of r)) ≡ map as_delivered (delivered_by_run r)

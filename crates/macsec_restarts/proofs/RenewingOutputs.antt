-- What a run gives out is what the lists say, by the steps.
use Rattle.macsec_ahead.specs.Ahead.{AheadOutput, kept}
use Rattle.macsec_restarts.{
  proofs.{
    Names.{[], ◌++◌, ◌∙◌, ◌∷◌, ◌≡◌, Ahead, ap, append-nil, append_assoc, ap₂, cipher_use, endpoint_output},
    Names.{Inputs, InstalledKey, KeepingInput, leaves, List, map, map-append, MpduParts, newly_delivered_with},
    Names.{newly_sealed, newly_sent, None, received, refl, RunWith, seal_of, Some, State, Strict, suc, sym, take},
    Names.{the_key, tx_options, ℕ},
    RenewingLists.{delivers_each_listed_renewing, delivers_from_sas_renewing, seals_each_frame_renewing},
    Sends.seals_of_input,
  },
  specs.{
    AheadRuns.MatchesDeliveriesWith,
    RenewingLists.MatchesUsesWith,
    RenewingOrder.delivered_from_renewing,
    RenewingOutputs.{delivered_frames, delivered_in_output, DeliversFromSasWhatIsListed, DeliversWhatIsListed},
    RenewingOutputs.{DeliveredFrame, frame_of_use, as_delivered, of_sas, outputs_from, protected_frames, protected_in},
    RenewingOutputs.SendsWhatIsListed,
    RenewingRuns.{ahead_renewing_after, ahead_renewing_step, opening_of, sent_from_renewing},
    StrictLists.IsFromSaWith,
  },
}
use Rattle.macsec_secy.specs.Accepts.{parts_of}
use Rattle.macsec_suite.specs.Parts.{clear_length}
use Rattle.macsec_tag.specs.{Frame.in_a_row, Tag.encoding}
use Rattle.macsec_tx.specs.Transmit.{iv_sent}
use Rattle.std.proofs.Common.{drop}
use Rattle.std.proofs.lemmas.List.{take-append-drop}

-- ---- protected frames

octets_of_use : (key : InstalledKey) (iv : List ℕ) (p : MpduParts) → p.padding ≡ [] →
    frame_of_use (cipher_use key iv p) ≡ in_a_row p
octets_of_use key iv p none =
    ap (λ xs. xs ++ p.icv) (append_assoc front (take clear p.secure_data) (drop clear p.secure_data)
    ∙ ap (λ xs. front ++ xs) (take-append-drop clear p.secure_data))
    ∙ sym (append-nil (front ++ p.secure_data ++ p.icv))
    ∙ ap (λ xs. front ++ p.secure_data ++ p.icv ++ xs) (sym none)
  where
    front : List ℕ
    front = p.da ++ p.sa ++ encoding p.tag

    clear : ℕ
    clear = clear_length key.offset p.tag.e p.secure_data

by_use : (a : Ahead) (input : KeepingInput) (o : AheadOutput) → MatchesUsesWith a input o →
    protected_in o ≡ map frame_of_use (newly_sealed a.k input)
by_use a input (kept (endpoint_output (leaves octets (Some key)))) it =
    let s : State = a.k.secy in
    let by : InstalledKey = the_key s.keys it.row.key in
    ap (λ xs. xs ∷ []) (it.octets_are ∙ sym (octets_of_use by (iv_sent (tx_options s) by it.row)
    (parts_of s it.client it.row) refl)) ∙ ap (map frame_of_use) (sym it.uses)
by_use a input o it = ap (map frame_of_use) (sym it)

sends_listed : (inputs : Inputs) (a : Ahead) → protected_frames (outputs_from a inputs) ≡
    map frame_of_use (map seal_of (sent_from_renewing a inputs))
sends_listed [] a = refl
sends_listed (input ∷ inputs) a =
    let next = ahead_renewing_step a input in
    let own : protected_in next.0 ≡ map frame_of_use (map seal_of (newly_sent a.k input)) =
    by_use a input next.0 (seals_each_frame_renewing a input) ∙ ap (map frame_of_use) (sym (seals_of_input a.k input))
    in
    ap₂ (λ (xs ys : List (List ℕ)). xs ++ ys) own (sends_listed inputs next.1)
    ∙ sym (map-append frame_of_use (map seal_of (newly_sent a.k input))
    (map seal_of (sent_from_renewing next.1 inputs)))
    ∙ ap (map frame_of_use) (sym (map-append seal_of (newly_sent a.k input) (sent_from_renewing next.1 inputs)))

pub sends_what_is_listed : (r : RunWith) → SendsWhatIsListed r
sends_what_is_listed r = sends_listed r.run.inputs (opening_of r)

-- ---- client frames

by_delivery : (a : Ahead) (input : KeepingInput) (o : AheadOutput) → MatchesDeliveriesWith a input o →
    of_sas (delivered_in_output o) ≡ map as_delivered (newly_delivered_with a input)
by_delivery a input (kept (endpoint_output (received verdict (Some place) shown (Some frame)))) it =
    let one : (Some place, frame) ≡ as_delivered it.delivery =
    rw (it.of_sci, it.of_an, it.of_frame) in
    ap (λ x. x ∷ []) one ∙ ap (map as_delivered) (sym it.one)
by_delivery a input (kept (endpoint_output (received verdict None shown (Some frame)))) it =
    ap (map as_delivered) (sym it)
by_delivery a input (kept (endpoint_output (received verdict None shown None))) it = ap (map as_delivered) (sym it)
by_delivery a input o it = ap (map as_delivered) (sym it)

of_sas-append : (xs ys : List DeliveredFrame) → of_sas (xs ++ ys) ≡ of_sas xs ++ of_sas ys
of_sas-append [] ys = refl
of_sas-append ((None, frame) ∷ xs) ys = of_sas-append xs ys
of_sas-append ((Some place, frame) ∷ xs) ys = ap (λ zs. (Some place, frame) ∷ zs) (of_sas-append xs ys)

delivers_listed : (inputs : Inputs) (a : Ahead) → of_sas (delivered_frames (outputs_from a inputs)) ≡
    map as_delivered (delivered_from_renewing a inputs)
delivers_listed [] a = refl
delivers_listed (input ∷ inputs) a =
    let next = ahead_renewing_step a input in
    of_sas-append (delivered_in_output next.0) (delivered_frames (outputs_from next.1 inputs))
    ∙ ap₂ (λ (xs ys : List DeliveredFrame). xs ++ ys)
    (by_delivery a input next.0 (delivers_each_listed_renewing a input))
    (delivers_listed inputs next.1)
    ∙ sym (map-append as_delivered (newly_delivered_with a input) (delivered_from_renewing next.1 inputs))

pub delivers_from_sas_what_is_listed : (r : RunWith) → DeliversFromSasWhatIsListed r
delivers_from_sas_what_is_listed r = delivers_listed r.run.inputs (opening_of r)

-- in the mode Strict there are no others
from_sas_alone : (o : AheadOutput) → IsFromSaWith o → of_sas (delivered_in_output o) ≡ delivered_in_output o
from_sas_alone (kept (endpoint_output (received verdict None shown (Some frame)))) none = absurd none
from_sas_alone (kept (endpoint_output (received verdict (Some place) shown (Some frame)))) is = refl
from_sas_alone (kept (endpoint_output (received verdict (Some place) shown None))) is = refl
from_sas_alone o is = refl

strictly : (inputs : Inputs) (a : Ahead) →
    ((n : ℕ) → (ahead_renewing_after a (take n inputs)).k.secy.options.mode ≡ Strict) →
    of_sas (delivered_frames (outputs_from a inputs)) ≡ delivered_frames (outputs_from a inputs)
strictly [] a strict = refl
strictly (input ∷ inputs) a strict =
    let next = ahead_renewing_step a input in
    of_sas-append (delivered_in_output next.0) (delivered_frames (outputs_from next.1 inputs))
    ∙ ap₂ (λ (xs ys : List DeliveredFrame). xs ++ ys)
    (from_sas_alone next.0 (delivers_from_sas_renewing a input (strict 0)))
    (strictly inputs next.1 (λ n. strict (suc n)))

pub delivers_what_is_listed : (r : RunWith) → DeliversWhatIsListed r
delivers_what_is_listed r strict =
    sym (strictly r.run.inputs (opening_of r) strict) ∙ delivers_listed r.run.inputs (opening_of r)

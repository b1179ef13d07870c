-- What a whole run of calls gives out is what the lists say, call by call.
use Rattle.std.proofs.Common.{◌≡◌, ◌∙◌, ◌++◌, ◌∷◌, ℕ, suc, List, [], Some, None, refl, ap, ap₂, sym, All, append-nil}
use Rattle.std.proofs.Common.{append_assoc, drop, map, take}
use Rattle.std.proofs.lemmas.List.{map-append, take-append-drop}
use Rattle.std.proofs.lemmas.List.Elements.{All-head, All-tail}
use Rattle.macsec_tag.specs.Frame.{MpduParts, in_a_row}
use Rattle.macsec_tag.specs.Tag.{encoding}
use Rattle.macsec_suite.specs.CipherUses.{cipher_use}
use Rattle.macsec_suite.specs.KeyRows.{InstalledKey, the_key}
use Rattle.macsec_suite.specs.Parts.{clear_length}
use Rattle.macsec_commands.specs.declared.command.Command.TheVariants.{Key}
use Rattle.macsec_commands.specs.declared.mode.Mode.TheVariants.{Strict}
use Rattle.macsec_tx.specs.Transmit.{iv_sent}
use Rattle.macsec_secy.specs.Accepts.{parts_of}
use Rattle.macsec_secy.specs.State.{State, tx_options}
use Rattle.macsec_secy.specs.Step.{leaves, received}
use Rattle.macsec_reserve.specs.Histories.{newly_sealed}
use Rattle.macsec_reserve.specs.Keeping.{Keeping, KeepingInput, endpoint_output}
use Rattle.macsec_ahead.specs.Ahead.{Ahead, AheadOutput, kept}
use Rattle.macsec_restarts.specs.AheadRuns.{MatchesDeliveriesWith, newly_delivered_with}
use Rattle.macsec_restarts.specs.RenewingLists.{MatchesUsesWith}
use Rattle.macsec_restarts.specs.RenewingOutputs.{DeliveredFrame, as_delivered, delivered_frames, delivered_in_output}
use Rattle.macsec_restarts.specs.RenewingOutputs.{frame_of_use, of_sas, outputs_from, protected_frames, protected_in}
use Rattle.macsec_restarts.specs.RenewingRuns.{ahead_renewing_step}
use Rattle.macsec_restarts.specs.Sent.{ListsEachUse, newly_sent}
use Rattle.macsec_restarts.specs.StrictLists.{IsFromSaWith}
use Rattle.macsec_restarts.specs.Used.{seal_of}
use Rattle.macsec_c_calls.specs.GivenUp.{Call, after_call, after_calls, command}
use Rattle.macsec_c_runs.specs.GivenOut.{AnswersAreOutputs, DeliversFromSasWhatIsListed, DeliversWhatIsListed}
use Rattle.macsec_c_runs.specs.GivenOut.{InstallsByRenewal, SendsWhatIsListed, answers_from}
use Rattle.macsec_c_runs.specs.Runs.{CallRun, input_of, opening, sent_by}
use Rattle.macsec_c_runs.specs.SingleCalls.{DeliversEachListed, DeliversFromSas, SealsEachFrame, answer_to}
use Rattle.macsec_c_runs.specs.TwoEnds.{delivered_by}

-- ---- protected frames

octets_of_use : (key : InstalledKey) (iv : List ℕ) (p : MpduParts) → p.padding ≡ [] →
    frame_of_use (cipher_use key iv p) ≡ in_a_row p
octets_of_use key iv p none =
    ap (λ xs. xs ++ p.icv) (append_assoc front (take clear p.secure_data) (drop clear p.secure_data)
    ∙ ap (λ xs. front ++ xs) (take-append-drop clear p.secure_data))
    ∙ sym (append-nil (front ++ p.secure_data ++ p.icv))
    ∙ ap (λ xs. front ++ p.secure_data ++ p.icv ++ xs) (sym none)
  where
    front : List ℕ
    front = p.da ++ p.sa ++ encoding p.tag

    clear : ℕ
    clear = clear_length key.offset p.tag.e p.secure_data

by_use : (e : Ahead) (input : KeepingInput) (o : AheadOutput) → MatchesUsesWith e input o →
    protected_in o ≡ map frame_of_use (newly_sealed e.k input)
by_use e input (kept (endpoint_output (leaves octets (Some key)))) it =
    let s : State = e.k.secy in
    let by : InstalledKey = the_key s.keys it.row.key in
    ap (λ xs. xs ∷ []) (it.octets_are ∙ sym (octets_of_use by (iv_sent (tx_options s) by it.row)
    (parts_of s it.client it.row) refl)) ∙ ap (map frame_of_use) (sym it.uses)
by_use e input o it = ap (map frame_of_use) (sym it)

pub sends_listed : ((e : Ahead) (call : Call) → SealsEachFrame e call) →
    ((k : Keeping) (input : KeepingInput) → ListsEachUse k input) → (r : CallRun) → SendsWhatIsListed r
sends_listed seals lists r = each r.calls (opening r)
  where
    each : (calls : List Call) (e : Ahead) → protected_frames (answers_from e calls) ≡
        map frame_of_use (map seal_of (sent_by e calls))
    each [] e = refl
    each (call ∷ calls) e =
        let next = after_call e call in
        let input = input_of call in
        let own : protected_in (answer_to e call) ≡ map frame_of_use (map seal_of (newly_sent e.k input)) =
        by_use e input (answer_to e call) (seals e call) ∙ ap (map frame_of_use) (sym (lists e.k input)) in
        ap₂ (λ (xs ys : List (List ℕ)). xs ++ ys) own (each calls next)
        ∙ sym (map-append frame_of_use (map seal_of (newly_sent e.k input)) (map seal_of (sent_by next calls)))
        ∙ ap (map frame_of_use) (sym (map-append seal_of (newly_sent e.k input) (sent_by next calls)))

-- ---- client frames

by_delivery : (e : Ahead) (input : KeepingInput) (o : AheadOutput) → MatchesDeliveriesWith e input o →
    of_sas (delivered_in_output o) ≡ map as_delivered (newly_delivered_with e input)
by_delivery e input (kept (endpoint_output (received verdict (Some place) shown (Some frame)))) it =
    let one : (Some place, frame) ≡ as_delivered it.delivery =
    rw (it.of_sci, it.of_an, it.of_frame) in
    ap (λ x. x ∷ []) one ∙ ap (map as_delivered) (sym it.one)
by_delivery e input (kept (endpoint_output (received verdict None shown (Some frame)))) it =
    ap (map as_delivered) (sym it)
by_delivery e input (kept (endpoint_output (received verdict None shown None))) it = ap (map as_delivered) (sym it)
by_delivery e input o it = ap (map as_delivered) (sym it)

of_sas-append : (xs ys : List DeliveredFrame) → of_sas (xs ++ ys) ≡ of_sas xs ++ of_sas ys
of_sas-append [] ys = refl
of_sas-append ((None, frame) ∷ xs) ys = of_sas-append xs ys
of_sas-append ((Some place, frame) ∷ xs) ys = ap (λ zs. (Some place, frame) ∷ zs) (of_sas-append xs ys)

pub from_sas_listed : ((e : Ahead) (call : Call) → DeliversEachListed e call) → (r : CallRun) →
    DeliversFromSasWhatIsListed r
from_sas_listed law r = each r.calls (opening r)
  where
    each : (calls : List Call) (e : Ahead) → of_sas (delivered_frames (answers_from e calls)) ≡
        map as_delivered (delivered_by e calls)
    each [] e = refl
    each (call ∷ calls) e =
        let next = after_call e call in
        of_sas-append (delivered_in_output (answer_to e call)) (delivered_frames (answers_from next calls))
        ∙ ap₂ (λ (xs ys : List DeliveredFrame). xs ++ ys)
        (by_delivery e (input_of call) (answer_to e call) (law e call)) (each calls next)
        ∙ sym (map-append as_delivered (newly_delivered_with e (input_of call)) (delivered_by next calls))

-- in the mode Strict there are no others
from_sas_alone : (o : AheadOutput) → IsFromSaWith o → of_sas (delivered_in_output o) ≡ delivered_in_output o
from_sas_alone (kept (endpoint_output (received verdict None shown (Some frame)))) none = absurd none
from_sas_alone (kept (endpoint_output (received verdict (Some place) shown (Some frame)))) is = refl
from_sas_alone (kept (endpoint_output (received verdict (Some place) shown None))) is = refl
from_sas_alone o is = refl

pub strictly_listed : ((e : Ahead) (call : Call) → DeliversEachListed e call) →
    ((e : Ahead) (call : Call) → DeliversFromSas e call) → (r : CallRun) → DeliversWhatIsListed r
strictly_listed listed law r strict = sym (alone r.calls (opening r) strict) ∙ from_sas_listed listed r
  where
    alone : (calls : List Call) (e : Ahead) → ((n : ℕ) → (after_calls e (take n calls)).k.secy.options.mode ≡ Strict) →
        of_sas (delivered_frames (answers_from e calls)) ≡ delivered_frames (answers_from e calls)
    alone [] e strict' = refl
    alone (call ∷ calls) e strict' =
        let next = after_call e call in
        of_sas-append (delivered_in_output (answer_to e call)) (delivered_frames (answers_from next calls))
        ∙ ap₂ (λ (xs ys : List DeliveredFrame). xs ++ ys)
        (from_sas_alone (answer_to e call) (law e call (strict' 0))) (alone calls next (λ n. strict' (suc n)))

-- ---- calls that are inputs

is_output : (e : Ahead) (call : Call) → InstallsByRenewal call →
    ahead_renewing_step e (input_of call) ≡ (answer_to e call, after_call e call)
is_output e (command (Key key)) never = absurd never
is_output e call by = refl

pub are_outputs : (r : CallRun) → AnswersAreOutputs r
are_outputs r by = each r.calls (opening r) by
  where
    each : (calls : List Call) (e : Ahead) → All InstallsByRenewal calls →
        answers_from e calls ≡ outputs_from e (map input_of calls)
    each [] e by' = refl
    each (call ∷ calls) e by' =
        let rest : List KeepingInput = map input_of calls in
        ap (λ (os : List AheadOutput). answer_to e call ∷ os)
        (each calls (after_call e call) (All-tail InstallsByRenewal call calls by'))
        ∙ ap (λ (it : AheadOutput × Ahead). it.0 ∷ outputs_from it.1 rest)
        (sym (is_output e call (All-head InstallsByRenewal call calls by')))

-- An end after it received a frame.
use Rattle.{
  std.proofs.Common.{◌≡◌, ◌∙◌, ℕ, ◌≤◌, List, ap, length, subst, sym, option_map, Option, Some, None},
  macsec_tag.specs.declared.identifiers.Sci.Sci,
  macsec_rx.specs.{Judge.place_of, declared.Verdict.Verdict},
  macsec_secy.specs.{
    Frames.{HasFrameLengths, HasReceivedLengths},
    Reception.{judgement_of, state_after_receiving},
    Sound.IsSound,
    State.State,
    Step.{Input, Output, frame_fault, link_frame, received, received_output, step, unless_fault},
  },
  macsec_link_logs.specs.{Answers.EndHappens, Ends.EndState, Logs.{DeliveryLog, delivered_after}},
}

-- the frame itself is shown, and the delivered frame is no longer
pub record IsHeard (frame shown lent : List ℕ) : Type 0 where
  pub same : shown ≡ frame
  pub most : length lent ≤ length frame

pub heard : ((s : State) (input : Input) → IsSound s → HasFrameLengths (step s input).0) → (s : State) → IsSound s →
    (frame shown lent : List ℕ) (verdict : Verdict) (row : Option (Sci × ℕ)) → frame_fault frame ≡ None →
    received verdict row shown (Some lent) ≡ (step s (link_frame frame)).0 → IsHeard frame shown lent
heard law s sound frame shown lent verdict row fits is =
    let j = judgement_of s frame in
    let out : received verdict row shown (Some lent) ≡ received j.verdict (option_map place_of j.row) frame j.delivered =
    is ∙ ap (λ f. (unless_fault f s (received_output frame j, state_after_receiving s frame j)).0) fits in
    let same : shown ≡ frame = cc in
    let lengths : HasReceivedLengths shown (Some lent) = subst HasFrameLengths (sym is) (law s (link_frame frame) sound) in
    record { same = same; most = subst (λ (f : List ℕ). length lent ≤ length f) same lengths.controlled }

pub shown_itself : (s : State) (frame shown : List ℕ) (verdict : Verdict) (row : Option (Sci × ℕ)) (o : Option (List ℕ)) → frame_fault frame ≡ None →
    received verdict row shown o ≡ (step s (link_frame frame)).0 → shown ≡ frame
shown_itself s frame shown verdict row o fits is =
    let j = judgement_of s frame in
    let out : received verdict row shown o ≡ received j.verdict (option_map place_of j.row) frame j.delivered =
    is ∙ ap (λ f. (unless_fault f s (received_output frame j, state_after_receiving s frame j)).0) fits in
    cc

module _ (old : EndState) (frame : List ℕ) (after : State) (after_is : after ≡ (step old.state (link_frame frame)).1) where
  -- the end afterwards, with these logs of deliveries
  abbrev end_with : List DeliveryLog → EndState
  end_with logs = record { state = after; sent = old.sent; delivered = logs }

  pub hears : (now : EndState) → old ≡ now → (output : Output) → output ≡ (step old.state (link_frame frame)).0 → (delivered : List DeliveryLog) →
      delivered ≡ delivered_after (link_frame frame) output old.delivered →
      EndHappens now (link_frame frame) output (record { state = after; sent = old.sent; delivered = delivered })
  hears now same output is delivered delivered_is =
      let answer = (step old.state (link_frame frame)).0 in
      let logs = delivered_after (link_frame frame) answer old.delivered in
      subst (λ (e : EndState). EndHappens e (link_frame frame) output (end_with delivered)) same (rw delivered_is (record {
        output_is = is;
        end = ap (λ (o : Output). end_with (delivered_after (link_frame frame) o old.delivered)) is
            ∙ ap (λ (t : State). record { state = t; sent = old.sent; delivered = logs }) after_is;
      }))

-- What is delivered is no longer than the longest frame.
use Rattle.{
  std.proofs.Common.{◌≡◌, ℕ, ◌≤◌, List, false, ap, sym, subst, ◌∙◌, arith, Option, Some, None, IfSome, Ok, length},
  std.proofs.Common.option_map,
  std.specs.Borrow.Bor,
  macsec_tag.specs.{Limits.max_frame_len, declared.identifiers.Sci.Sci},
  macsec_rx.specs.{Judge.Judgement, declared.Verdict.Verdict},
  macsec_secy.specs.{
    Answers.output_of_received,
    Frames.{HasFrameLengths, HasReceivedLengths},
    Reception.{judgement_of, state_after_receiving},
    Sound.IsSound,
    State.State,
    Step.{Input, Output, frame_fault, link_frame, received, received_output, step, unless_fault},
    declared.{answers.Received.Received, fault.FrameFault.FrameFault},
  },
  macsec_reserve.{
    proofs.Steps.received_step,
    specs.Keeping.{Keeping, KeepingOutput, endpoint_input, endpoint_output, keeping_step},
  },
  macsec_ahead.specs.{
    Ahead.{Ahead, Standing, ahead_by, ahead_step, before_this_run, kept, not_yet, passes, standing},
    Answers.output_of_ahead,
  },
}
use Rattle.macsec_secy.specs.declared.answers.LimitedReceived.TheVariants as by

-- the law `lengths_of_frames`
abbrev pub Lengths : Type 0
Lengths = (s : State) (input : Input) → IsSound s → HasFrameLengths (step s input).0

fits : (shown : List ℕ) (controlled : Option (Bor (List ℕ))) (room : ℕ) → HasReceivedLengths shown (option_map (λ (d : Bor (List ℕ)). d.now) controlled) → max_frame_len ≤ room →
    IfSome controlled (λ d. length d.now ≤ room)
fits shown None room lengths wide = tt
fits shown (Some d) room lengths wide = omega (arith, lengths.controlled, lengths.shown.most, wide)

one_output : (a b : Output) → endpoint_output a ≡ endpoint_output b → a ≡ b
one_output a b e = cc

-- what is not dropped has the output of the keeping endpoint inside
inside_output : (it : Standing) (a : Ahead) (input : Input) (answer : KeepingOutput × Keeping) (x : KeepingOutput) → kept x ≡ (ahead_by false it a input answer).0 → x ≡ answer.0
inside_output passes a input answer x e = cc
inside_output (not_yet at) a input answer x e = cc
inside_output (before_this_run at) a input answer x e = cc

pub delivered_fits : Lengths → (a : Ahead) (frame : List ℕ) (r : Received) (room : ℕ) → IsSound a.k.secy →
    output_of_ahead (Ok (by.Received r)) ≡ (ahead_step a (endpoint_input (link_frame frame))).0 → max_frame_len ≤ room → IfSome r.controlled (λ d. length d.now ≤ room)
delivered_fits law a frame r room sound is wide =
    let answer = keeping_step a.k (endpoint_input (link_frame frame)) in
    let inside : endpoint_output (output_of_received (Ok r)) ≡ answer.0 = inside_output (standing a (link_frame frame)) a (link_frame frame) answer _ is in
    let same : output_of_received (Ok r) ≡ (step a.k.secy (link_frame frame)).0 =
    one_output _ _ (inside ∙ ap (λ (answer : KeepingOutput × Keeping). answer.0) (received_step a.k frame)) in
    let lengths : HasFrameLengths (output_of_received (Ok r)) = subst HasFrameLengths (sym same) (law a.k.secy (link_frame frame) sound) in
    fits r.uncontrolled.now r.controlled room lengths wide

-- the frame that is shown is the link frame
shown_frame : (f : Option FrameFault) (s after : State) (frame shown : List ℕ) (j : Judgement) (v : Verdict) (row : Option (Sci × ℕ)) (controlled : Option (List ℕ)) →
    received v row shown controlled ≡ (unless_fault f s (received_output frame j, after)).0 → shown ≡ frame
shown_frame None s after frame shown j v row controlled e = cc
shown_frame (Some f) s after frame shown j v row controlled e = cc

-- what is received is the output of the step, with the delivered frame where it was copied to
pub finished_as : (a : Ahead) (frame : List ℕ) (r : Received) (delivered : Option (List ℕ)) →
    output_of_ahead (Ok (by.Received r)) ≡ (ahead_step a (endpoint_input (link_frame frame))).0 → delivered ≡ option_map (λ (d : Bor (List ℕ)). d.now) r.controlled →
    kept (endpoint_output (received r.verdict r.row frame delivered)) ≡ (ahead_step a (endpoint_input (link_frame frame))).0
finished_as a frame r delivered is same =
    let s = a.k.secy in
    let j = judgement_of s frame in
    let answer = keeping_step a.k (endpoint_input (link_frame frame)) in
    let inside : endpoint_output (output_of_received (Ok r)) ≡ answer.0 = inside_output (standing a (link_frame frame)) a (link_frame frame) answer _ is in
    let stepped : output_of_received (Ok r) ≡ (step s (link_frame frame)).0 =
    one_output _ _ (inside ∙ ap (λ (it : KeepingOutput × Keeping). it.0) (received_step a.k frame)) in
    let shown : r.uncontrolled.now ≡ frame = shown_frame (frame_fault frame) s (state_after_receiving s frame j) frame _ j _ _ _ stepped in
    ap (λ (d : Option (List ℕ)). kept (endpoint_output (received r.verdict r.row frame d))) same
    ∙ ap (λ (xs : List ℕ). kept (endpoint_output (received r.verdict r.row xs (option_map (λ (d : Bor (List ℕ)). d.now) r.controlled)))) (sym shown)
    ∙ is

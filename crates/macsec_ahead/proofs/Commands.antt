-- What a command leaves, by the answer of the keeping endpoint.
use Rattle.{
  std.proofs.Common.{◌≡◌, Bool, true, false, List, refl, ap, sym, ◌∙◌, is_ok, if◌then◌else◌, Result, Ok, Err},
  macsec_suite.specs.declared.refusal.Refusal.Refusal,
  macsec_commands.specs.declared.command.Command.Command,
  macsec_rx.specs.declared.RxRow.RxRow,
  macsec_secy.specs.{Answers.output_of_command, State.State, Step.operator_command},
  macsec_reserve.specs.{Forgetting.is_done, Keeping.{Keeping, KeepingOutput, endpoint_output}},
  macsec_ahead.specs.{
    Ahead.{Ahead, AheadOutput, ahead_by, kept, passes},
    Ends.{Ends, after_retiring, ends_among, with_ends},
  },
}

done_as : {A : Type 0} (r : Result A Refusal) → is_done (endpoint_output (output_of_command r)) ≡ is_ok r
done_as (Ok x) = refl
done_as (Err e) = refl

-- a command that is not refused gives the answer of the keeping endpoint
pub answer_of : (a : Ahead) (c : Command) (answer : KeepingOutput × Keeping) (again : Bool) → again ≡ false → kept answer.0 ≡ (ahead_by again passes a (operator_command c) answer).0
answer_of a c answer again fresh = sym (ap (λ (b : Bool). (ahead_by b passes a (operator_command c) answer).0) fresh)

-- and leaves its state, with the table of ends that the code makes
pub state_of : {A : Type 0} (a : Ahead) (c : Command) (answer : KeepingOutput × Keeping) (again : Bool) (r : Result A Refusal) (k : Keeping) (s : State) (t : Ends) (keeps ok : Bool) (rows : List RxRow) →
    again ≡ false → endpoint_output (output_of_command r) ≡ answer.0 → k ≡ answer.1 → s ≡ k.secy → keeps ≡ a.k.keeps → rows ≡ a.k.secy.rx.rows → ok ≡ is_ok r →
    t ≡ (if keeps then after_retiring c ok (with_ends (ends_among s rows) a.ended) else a.ended) →
    record a { k = k; ended = t } ≡ (ahead_by again passes a (operator_command c) answer).1
state_of a c answer again r k s t keeps ok rows fresh is_output is_k is_s is_keeps is_rows of_ok is_t =
    ap (λ (x : Keeping). record a { k = x; ended = t }) is_k
    ∙ ap (λ (u : Ends). record a { k = answer.1; ended = u })
    (is_t
    ∙ ap (λ (b : Bool). if b then after_retiring c ok (with_ends (ends_among s rows) a.ended) else a.ended) is_keeps
    ∙ ap (λ (b : Bool). if a.k.keeps then after_retiring c b (with_ends (ends_among s rows) a.ended) else a.ended) (of_ok ∙ sym (done_as r) ∙ ap is_done is_output)
    ∙ ap (λ (u : State). if a.k.keeps then after_retiring c (is_done answer.0) (with_ends (ends_among u rows) a.ended) else a.ended) (is_s ∙ ap (λ (x : Keeping). x.secy) is_k)
    ∙ ap (λ (rs : List RxRow). if a.k.keeps then after_retiring c (is_done answer.0) (with_ends (ends_among answer.1.secy rs) a.ended) else a.ended) is_rows)
    ∙ sym (ap (λ (b : Bool). (ahead_by b passes a (operator_command c) answer).1) fresh)

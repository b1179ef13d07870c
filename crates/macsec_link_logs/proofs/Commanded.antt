-- An end after a management command that it carried out or refused.
use Rattle.{
  std.proofs.Common.{◌≡◌, ◌∙◌, List, ap, subst},
  macsec_suite.specs.declared.refusal.Refusal.Refusal,
  macsec_commands.specs.declared.command.Command.Command,
  macsec_secy.specs.{State.State, Step.{Output, done, operator_command, refused, step}},
  macsec_link_logs.specs.{Answers.EndHappens, Ends.EndState, Logs.{DeliveryLog, delivered_after, logs_after_command}},
}

module _ (old : EndState) (c : Command) (after : State) (after_is : after ≡ (step old.state (operator_command c)).1) where
  -- the end afterwards, with these logs of deliveries
  abbrev end_with : List DeliveryLog → EndState
  end_with logs = record { state = after; sent = old.sent; delivered = logs }

  happens : (output : Output) → output ≡ (step old.state (operator_command c)).0 → (delivered : List DeliveryLog) →
      delivered ≡ delivered_after (operator_command c) output old.delivered →
      EndHappens old (operator_command c) output (end_with delivered)
  happens output is delivered delivered_is =
      let answer = (step old.state (operator_command c)).0 in
      let logs = delivered_after (operator_command c) answer old.delivered in
      record {
        output_is = is;
        end = ap end_with delivered_is
            ∙ ap (λ (o : Output). end_with (delivered_after (operator_command c) o old.delivered)) is
            ∙ ap (λ (t : State). record { state = t; sent = old.sent; delivered = logs }) after_is;
      }

  pub done_with : (now : EndState) → old ≡ now → done ≡ (step old.state (operator_command c)).0 → (delivered : List DeliveryLog) → delivered ≡ logs_after_command c old.delivered →
      EndHappens now (operator_command c) done (end_with delivered)
  done_with now same is delivered delivered_is =
      subst (λ (e : EndState). EndHappens e (operator_command c) done (end_with delivered)) same (happens done is delivered delivered_is)

  pub refused_with : (now : EndState) → old ≡ now → (r : Refusal) → refused r ≡ (step old.state (operator_command c)).0 →
      (delivered : List DeliveryLog) → delivered ≡ old.delivered →
      EndHappens now (operator_command c) (refused r) (end_with delivered)
  refused_with now same r is delivered delivered_is =
      subst (λ (e : EndState). EndHappens e (operator_command c) (refused r) (end_with delivered)) same (happens (refused r) is delivered delivered_is)

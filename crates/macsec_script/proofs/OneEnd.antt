-- The endpoint of end A decides what a line about it alone prints: by the kind of line, and by the refusal of a command.
use Rattle.{
  std.proofs.Common.{◌≡◌, ℕ, refl, ap, Option, Some, None},
  macsec_suite.specs.declared.refusal.Refusal.Refusal,
  macsec_commands.specs.declared.event.End.TheVariants.A,
  macsec_secy.specs.{Step.{operator_command, command_output}},
  macsec_link_logs.specs.Ends.EndState,
  macsec_link.specs.{Step.reaction, World.{WorldState, with_end}},
  macsec_script_parser.specs.declared.lines.Action.Action,
  macsec_script_printer.specs.OneEnd.command_text,
  macsec_script.specs.{OneEnd.NeedsOneEnd, Printed.text_and_world},
}
use Rattle.macsec_commands.specs.declared.event.Event.TheVariants as event
use Rattle.macsec_script_parser.specs.declared.lines.Action.TheVariants as action

-- a command is refused or done
told : (w : WorldState) (n : ℕ) (e : EndState) (r : Option Refusal) →
    text_and_world n (reaction (with_end w A e) (command_output r)) ≡ (command_text n (command_output r), with_end w A e)
told w n e None = refl
told w n e (Some r) = refl

pub needs_one_end : (w : WorldState) (n : ℕ) (said : Action) → NeedsOneEnd w n said
needs_one_end w n (action.Event (event.Command A c)) =
    let input = operator_command c in
    let is = told w n _ _ in
    record { text = ap (λ it. it.0) is; state = ap (λ it. it.1.a.state) is; other_end = ap (λ it. it.1.b) is; link = ap (λ it. it.1.frames) is }
needs_one_end w n (action.Counters A) = record { text = refl; state = refl; other_end = refl; link = refl }
needs_one_end w n (action.Numbers A) = record { text = refl; state = refl; other_end = refl; link = refl }
needs_one_end w n other = tt

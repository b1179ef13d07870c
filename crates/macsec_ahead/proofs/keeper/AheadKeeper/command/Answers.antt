-- The ends of the deleted SAs are added, and the ends under a retired key are removed.
use Rattle.{
  std.proofs.Common.{◌≡◌, false, ap, sym, ◌∙◌},
  macsec_secy.specs.{State.State, Step.operator_command},
  macsec_reserve.specs.Keeping.{endpoint_input, keeping_step},
  macsec_ahead.proofs.Commands.{answer_of, state_of},
  macsec_ahead.specs.{Ahead.{Ahead, ahead_step, begins_again, kept}, contracts.keeper.AheadKeeper.the_view},
}
use Rattle.macsec_ahead.proofs.keeper.AheadKeeper.command.Goals as goal

pub returns : goal.returns
returns c =
    let a = the_view c.self.inside in
    let command = c.args.command.now in
    let input = endpoint_input (operator_command command) in
    let answer = keeping_step a.k input in
    let again = begins_again a (operator_command command) in
    let fresh : again ≡ false = ap (λ (x : Ahead). begins_again x (operator_command command)) c.self.view_is ∙ sym c.begins_again.ensures ∙ c.if-begins_again.false in
    let rows = c.as_slice-rows.ensures.value ∙ c.copy_rows.ensures.items ∙ ap (λ (s : State). s.rx.rows) c.secy.ensures in
    record {
      output = ap kept c.command-done.ensures.output ∙ answer_of a command answer again fresh ∙ ap (λ (x : Ahead). (ahead_step x input).0) c.self.view_is;
      after = state_of a command answer again c.command-done.result c.command-done.new.self c.secy-2.result.now c.add_ends.new.ended c.has_journal-keeps.result c.is_ok.result c.as_slice-rows.result.now
          fresh c.command-done.ensures.output c.command-done.ensures.after c.secy-2.ensures c.has_journal-keeps.ensures rows c.is_ok.ensures.value c.add_ends.ensures
          ∙ ap (λ (x : Ahead). (ahead_step x input).1) c.self.view_is;
    }

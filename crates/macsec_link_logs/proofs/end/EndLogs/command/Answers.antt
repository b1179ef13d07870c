-- A command at an end is one step of the machine, carried out or refused. `follow_command` updates the logs and their
-- table as the machine does; the end stays sound by `sound_after`.
use Rattle.{
  std.proofs.Common.{◌≡◌, ◌∙◌, ap, rules, subst, sym},
  macsec_secy.specs.Step.{done, operator_command, refused, step},
  macsec_link_logs.{
    proofs.{Commanded.{done_with, refused_with}, Logged.sound_after},
    specs.{Logs.logs_after_command, Places.live_places, Sound.IsSoundEnd, contracts.end.EndLogs.the_view},
  },
}
use Rattle.macsec_link_logs.proofs.end.EndLogs.command.Goals as goal

pub returns-in-Ok-clause-sound : goal.returns-in-Ok-clause-sound
returns-in-Ok-clause-sound c =
    let after : c.command.new.self ≡ (step c.self.inside.secy (operator_command c.args.command.now)).1 = search rules in
    let out : done ≡ (step c.self.inside.secy (operator_command c.args.command.now)).0 = search rules in
    let happens = done_with (the_view c.self.inside) c.args.command.now c.command.new.self after c.args.self.now c.self.view_is out _
    (c.follow_command.ensures.after ∙ ap (logs_after_command c.args.command.now) c.reserve_log.ensures.same) in
    sound_after c.args.self.now (operator_command c.args.command.now) done _ happens (subst IsSoundEnd c.self.view_is c.self.invariant.sound) c.command.ensures.sound

pub invariant_of-self-in-Ok : goal.invariant_of-self-in-Ok
invariant_of-self-in-Ok c = record { sound = returns-in-Ok-clause-sound c; live = c.follow_command.ensures.live }

pub returns-in-Err-clause-happens : goal.returns-in-Err-clause-happens
returns-in-Err-clause-happens c =
    let after : c.command.new.self ≡ (step c.self.inside.secy (operator_command c.args.command.now)).1 = search rules in
    let out : refused c.in-Err.refusal ≡ (step c.self.inside.secy (operator_command c.args.command.now)).0 = search rules in
    refused_with (the_view c.self.inside) c.args.command.now c.command.new.self after c.args.self.now c.self.view_is c.in-Err.refusal out _ c.reserve_log.ensures.same

pub returns-in-Err-clause-sound : goal.returns-in-Err-clause-sound
returns-in-Err-clause-sound c =
    let was_sound = subst IsSoundEnd c.self.view_is c.self.invariant.sound in
    let output = refused c.in-Err.refusal in
    sound_after c.args.self.now (operator_command c.args.command.now) output _ (returns-in-Err-clause-happens c) was_sound c.command.ensures.sound

pub invariant_of-self-in-Err : goal.invariant_of-self-in-Err
invariant_of-self-in-Err c = record {
  sound = returns-in-Err-clause-sound c;
  live = c.reserve_log.ensures.live ∙ c.self.invariant.live ∙ ap live_places (sym c.reserve_log.ensures.same);
}

-- A command that installs no key has its refusal in its output.
use Rattle.{
  std.proofs.Common.{◌≡◌, None, ap, ◌∙◌, rules},
  macsec_ahead.{proofs.Loads.refusal_kept, specs.Loading.{key_in, refusal_in}},
}
use Rattle.macsec_ahead.proofs.keeper.AheadKeeper.carry_out.Goals as goal

pub returns-in_default : goal.returns-in_default
returns-in_default c =
    let other : key_in c.args.command.now ≡ None = search rules in
    record {
      refusal = rw other (refusal_kept c.command_forgetting.result ∙ ap refusal_in c.command_forgetting.ensures.output);
      after = rw other c.command_forgetting.ensures.after;
    }

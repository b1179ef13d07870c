-- The octets of a key, at an endpoint that has renewed one.
use Rattle.std.proofs.Common.{◌≡◌, ◌∙◌, ◌&&◌, ap, sym, Bool}
use Rattle.macsec_aes.specs.Keys.{key_bytes}
use Rattle.macsec_commands.specs.declared.command.Command.{Command}
use Rattle.macsec_commands.specs.declared.command.Command.TheVariants.{Key}
use Rattle.macsec_reserve.specs.Renewing.{is_given_up}
use Rattle.macsec_ahead.specs.Ahead.{Ahead}
use Rattle.macsec_ahead.specs.Renewing.{installs_given_up}
use Rattle.macsec_ahead.proofs.keeper.AheadKeeper.installs_given_up.Goals as goal

pub returns-then-self : goal.returns-then-self
returns-then-self c =
    c.is_given_up.ensures
    ∙ sym (ap (λ (b : Bool). b && is_given_up c.self.inside.keeper (key_bytes c.in-Key.key.bytes)) c.if-self.true)
    ∙ ap (λ (x : Ahead). installs_given_up x (Key c.in-Key.key)) c.self.view_is
    ∙ ap (λ (it : Command). installs_given_up c.args.self.now it) (sym c.in-Key.is)

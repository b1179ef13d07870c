-- Sending leaves the limits as they are.
use Rattle.{
  std.proofs.Common.{ap, sym, ◌∙◌},
  macsec_reserve.specs.Keeping.Keeping,
  macsec_ahead.{proofs.LimitsKept.kept_sending, specs.Limits.limits_with},
}
use Rattle.macsec_ahead.proofs.keeper.AheadKeeper.send.Goals as goal

pub invariant_of-self : goal.invariant_of-self
invariant_of-self c =
    let a = c.self.inside in (
      c.self.invariant.0,
      c.self.invariant.1
          ∙ sym (kept_sending a.ahead a.keeper a.taken.items c.args.frame.now)
          ∙ ap (λ (k : Keeping). limits_with a.ahead k a.taken.items) (sym c.send.follows.holds-at-none),
    )

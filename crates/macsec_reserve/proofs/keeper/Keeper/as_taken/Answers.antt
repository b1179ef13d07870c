-- A key to install: whether a retired key has its fingerprint.
use Rattle.macsec_reserve.{
  proofs.{Prelude.{◌∙◌, ap, as_taken, false, Keeping, true}, ForgettingCalls.taken_if},
  specs.contracts.keeper.Keeper.the_view,
}
use Rattle.macsec_reserve.proofs.keeper.Keeper.as_taken.Goals as goal

pub returns-then-has_retired_key : goal.returns-then-has_retired_key
returns-then-has_retired_key c =
    taken_if (the_view c.self.inside) c.args.key c.fingerprint-bytes.result c.deref.result.now c.has_retired_key.result true c.fingerprint-bytes.ensures c.deref.ensures c.has_retired_key.ensures c.if-has_retired_key.true
    ∙ ap (λ (k : Keeping). as_taken k c.args.key) c.self.view_is

pub returns-else-has_retired_key : goal.returns-else-has_retired_key
returns-else-has_retired_key c =
    taken_if (the_view c.self.inside) c.args.key c.fingerprint-bytes.result c.deref.result.now c.has_retired_key.result false c.fingerprint-bytes.ensures c.deref.ensures c.has_retired_key.ensures c.if-has_retired_key.false
    ∙ ap (λ (k : Keeping). as_taken k c.args.key) c.self.view_is

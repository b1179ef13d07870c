use Rattle.std.proofs.Common.{true}
use Rattle.macsec_example_callers.proofs.laws.ends_keep_order.Goals as goal

pub returns : goal.returns
returns c = c.comes_in_order_if_kept_renewing.ensures.read (λ e n. true)

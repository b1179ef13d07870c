use Rattle.macsec_c_runs.proofs.Order.{comes_in_order_if_read_over_calls, comes_in_order_over_calls}
use Rattle.macsec_c_runs.proofs.Peers.{peers_at_each}
use Rattle.macsec_c_runs.proofs.laws.comes_in_order_over_calls.Goals as goal

pub returns-clause-kept : goal.returns-clause-kept
returns-clause-kept c = comes_in_order_over_calls c.comes_in_order_if_kept_renewing.ensures.kept

pub returns-clause-read : goal.returns-clause-read
returns-clause-read c = comes_in_order_if_read_over_calls c.comes_in_order_if_kept_renewing.ensures.read

pub returns-clause-peers : goal.returns-clause-peers
returns-clause-peers c = peers_at_each

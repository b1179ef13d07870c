-- Order, and each frame at most once, of endpoints that renew keys, by the laws of an endpoint.
use Rattle.macsec_restarts.proofs.RenewingOrder.{comes_in_order_if_kept_renewing, comes_in_order_if_read_renewing}
use Rattle.macsec_restarts.proofs.RenewingOrder.{is_weaker_to_deliver_with, is_weaker_to_send_with}
use Rattle.macsec_restarts.proofs.RenewingOrder.{peers_at_each_renewing}
use Rattle.macsec_restarts.proofs.laws.comes_in_order_if_kept_renewing.Goals as goal

pub returns-clause-kept : goal.returns-clause-kept
returns-clause-kept c = comes_in_order_if_kept_renewing (assumption)
    (record { ivs = c.renews_keys_safely.ensures.ivs; octets = c.renews_keys_safely.ensures.octets }) (record {
      known = c.refuses_forgotten_keys.ensures.stays;
      gives_up = c.renewing_gives_up_octets.ensures.gives_up;
      stays = c.renewing_gives_up_octets.ensures.stays;
      forever = c.renewing_gives_up_octets.ensures.forever;
    }) c.reads_by_grammar.ensures

pub returns-clause-read : goal.returns-clause-read
returns-clause-read c = comes_in_order_if_read_renewing (assumption)
    (record { ivs = c.renews_keys_safely.ensures.ivs; octets = c.renews_keys_safely.ensures.octets }) (record {
      known = c.refuses_forgotten_keys.ensures.stays;
      gives_up = c.renewing_gives_up_octets.ensures.gives_up;
      stays = c.renewing_gives_up_octets.ensures.stays;
      forever = c.renewing_gives_up_octets.ensures.forever;
    }) c.reads_by_grammar.ensures

pub returns-clause-sends : goal.returns-clause-sends
returns-clause-sends c = is_weaker_to_send_with

pub returns-clause-delivers : goal.returns-clause-delivers
returns-clause-delivers c = is_weaker_to_deliver_with

pub returns-clause-peers : goal.returns-clause-peers
returns-clause-peers c = peers_at_each_renewing

-- By the laws of an endpoint and of the journal.
use Rattle.macsec_restarts.proofs.OnDiskHappenings.{comes_in_order_on_disk, has_the_runs}
use Rattle.macsec_restarts.proofs.laws.comes_in_order_on_disk.Goals as goal

pub returns-clause-runs : goal.returns-clause-runs
returns-clause-runs c = has_the_runs

pub returns-clause-order : goal.returns-clause-order
returns-clause-order c ahead two = comes_in_order_on_disk c.keeps_history.ensures ahead two (assumption)
    (record { ivs = c.renews_keys_safely.ensures.ivs; octets = c.renews_keys_safely.ensures.octets }) (record {
      known = c.refuses_forgotten_keys.ensures.stays;
      gives_up = c.renewing_gives_up_octets.ensures.gives_up;
      stays = c.renewing_gives_up_octets.ensures.stays;
      forever = c.renewing_gives_up_octets.ensures.forever;
    }) c.reads_by_grammar.ensures

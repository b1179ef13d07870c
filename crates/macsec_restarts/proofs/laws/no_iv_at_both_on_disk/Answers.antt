use Rattle.macsec_restarts.proofs.OnDiskOrder.{no_iv_at_both_on_disk}
use Rattle.macsec_restarts.proofs.laws.no_iv_at_both_on_disk.Goals as goal

pub returns : goal.returns
returns c = no_iv_at_both_on_disk (assumption)
    (record { ivs = c.renews_keys_safely.ensures.ivs; octets = c.renews_keys_safely.ensures.octets })
    c.keeps_history.ensures

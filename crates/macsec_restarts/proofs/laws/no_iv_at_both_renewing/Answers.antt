use Rattle.macsec_restarts.proofs.RenewingSends.{no_iv_at_both_renewing}
use Rattle.macsec_restarts.proofs.laws.no_iv_at_both_renewing.Goals as goal

pub returns : goal.returns
returns c = no_iv_at_both_renewing (assumption)
    (record { ivs = c.renews_keys_safely.ensures.ivs; octets = c.renews_keys_safely.ensures.octets })

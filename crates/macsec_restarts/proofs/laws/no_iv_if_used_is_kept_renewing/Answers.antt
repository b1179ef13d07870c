use Rattle.macsec_restarts.proofs.RenewingAhead.{no_iv_if_used_is_kept_with}
use Rattle.macsec_restarts.proofs.RenewingKeepers.{no_iv_if_used_is_kept_renewing}
use Rattle.macsec_restarts.proofs.laws.no_iv_if_used_is_kept_renewing.Goals as goal

pub returns-clause-keeper : goal.returns-clause-keeper
returns-clause-keeper c = no_iv_if_used_is_kept_renewing (assumption)
    (record { ivs = c.renews_keys_safely.ensures.ivs; octets = c.renews_keys_safely.ensures.octets })

pub returns-clause-kept : goal.returns-clause-kept
returns-clause-kept c = no_iv_if_used_is_kept_with (assumption)
    (record { ivs = c.renews_keys_safely.ensures.ivs; octets = c.renews_keys_safely.ensures.octets })

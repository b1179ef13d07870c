use Rattle.macsec_restarts.proofs.RenewingOrigins.{comes_from_other_renewing}
use Rattle.macsec_restarts.proofs.laws.comes_from_other_renewing.Goals as goal

pub returns : goal.returns
returns c = comes_from_other_renewing (assumption)
    (record { ivs = c.renews_keys_safely.ensures.ivs; octets = c.renews_keys_safely.ensures.octets })
    c.reads_by_grammar.ensures

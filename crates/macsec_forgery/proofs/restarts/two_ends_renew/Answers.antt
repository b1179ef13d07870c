use Rattle.macsec_forgery.proofs.AllPossible.{all_possible, hidden_and_refused, link_says_nothing, no_input_twice}
use Rattle.macsec_forgery.proofs.restarts.two_ends_renew.Goals as goal

pub returns-clause-possible : goal.returns-clause-possible
returns-clause-possible c = all_possible c.no_iv_at_both_renewing.ensures

pub returns-clause-inputs : goal.returns-clause-inputs
returns-clause-inputs c = no_input_twice c.no_iv_at_both_renewing.ensures

pub returns-clause-hidden : goal.returns-clause-hidden
returns-clause-hidden c = link_says_nothing c.no_iv_at_both_renewing.ensures

pub returns-clause-both : goal.returns-clause-both
returns-clause-both c = hidden_and_refused c.no_iv_at_both_renewing.ensures

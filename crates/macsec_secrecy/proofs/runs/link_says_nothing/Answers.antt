use Rattle.macsec_secrecy.proofs.SaysNothing.{link_says_nothing}
use Rattle.macsec_secrecy.proofs.runs.link_says_nothing.Goals as goal

pub returns : goal.returns
returns c = link_says_nothing c.promises.ensures

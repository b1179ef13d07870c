use Rattle.macsec_rx.proofs.judging.open.Goals as goal

pub returns-clause-octets : goal.returns-clause-octets
returns-clause-octets c = rw c.iv_of_frame-iv.ensures at c.deliver_opened.ensures.octets

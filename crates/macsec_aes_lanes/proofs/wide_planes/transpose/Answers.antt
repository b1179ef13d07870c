use Rattle.macsec_aes_lanes.proofs.Transposed.{transposed, octets_are_lanes, lanes_are_octets}
use Rattle.macsec_aes_lanes.proofs.wide_planes.transpose.Goals as goal

pub returns-clause-planes : goal.returns-clause-planes
returns-clause-planes c j h k l =
    let t = transposed _ _ _ _ j (λ i li. c.exchange_1.ensures.bits i li j h) (λ i li. c.exchange_2.ensures i li j h) (λ i li. c.exchange_4.ensures.bits i li j h) in
    octets_are_lanes c.args.v c.exchange_4.result j t k l (c.exchange_1.ensures.given k l j h)

pub returns-clause-octets : goal.returns-clause-octets
returns-clause-octets c j h k l =
    let t = transposed _ _ _ _ j (λ i li. c.exchange_1.ensures.bits i li j h) (λ i li. c.exchange_2.ensures i li j h) (λ i li. c.exchange_4.ensures.bits i li j h) in
    lanes_are_octets c.args.v c.exchange_4.result j t k l (c.exchange_4.ensures.made k l j h)

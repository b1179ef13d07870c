-- By the number of the interface. This proof is here for speed.
use Rattle.{std.proofs.Common.{◌∙◌, ap, slice_get}, macsec_pcapng.specs.Packets.enhanced_on}
use Rattle.macsec_pcapng.proofs.packets.enhanced.Goals as goal

pub returns-clause-packet : goal.returns-clause-packet
returns-clause-packet c =
    c.numbered.ensures.packet
    ∙ ap (λ n. enhanced_on c.args.has_ethernet (slice_get c.args.interfaces.now n) c.args.order c.args.len c.args.front.now) c.u32.ensures

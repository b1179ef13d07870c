-- A packet that is not of Ethernet has no data.
use Rattle.macsec_pcapng.{proofs.OtherPackets.other_fits, specs.Blocks.kept}
use Rattle.macsec_pcapng.proofs.packets.simple.Goals as goal

pub returns-then-not-is_ethernet-clause-fits : goal.returns-then-not-is_ethernet-clause-fits
returns-then-not-is_ethernet-clause-fits c =
    rw c.other_packet.ensures (other_fits c.args.has_ethernet c.in-Some.interface.now.link_type (kept c.args.len))

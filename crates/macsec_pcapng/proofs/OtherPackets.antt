-- A packet that is not of Ethernet has no data, so they are within each body.
use Rattle.{std.proofs.Common.{◌≤◌, ◌+◌, ℕ, arith, Bool, false, true, IfOk}, macsec_pcapng.specs.Packets.other_packet}

pub other_fits : (has_ethernet : Bool) (link_type n : ℕ) → IfOk (other_packet has_ethernet link_type) (λ packet. packet.start + packet.captured ≤ n)
other_fits false link_type n = tt
other_fits true link_type n = omega arith

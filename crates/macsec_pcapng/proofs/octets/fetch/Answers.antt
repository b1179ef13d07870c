-- The room was filled. This proof is here for speed.
use Rattle.{std.proofs.Common.arith, macsec_pcapng.proofs.TakenOctets.fetches}
use Rattle.macsec_pcapng.proofs.octets.fetch.Goals as goal

pub returns : goal.returns
returns g c = fetches _ _ c.fill.new.room c.in_ok-fill.field-0 (omega arith) c.in_ok-fill.ensures

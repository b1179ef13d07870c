use Rattle.{std.proofs.Common.arith, macsec_pcapng.proofs.OneTaken.{not_opened, opens}}
use Rattle.macsec_pcapng.proofs.reader.PcapngReader.new.Goals as goal

pub returns-in-Err-clause-opened : goal.returns-in-Err-clause-opened
returns-in-Err-clause-opened g c = not_opened _ (g.R.Read.remaining c.read_header.new.source) c.in-Err.fault c.in-Err.ensures

pub returns-in-Ok-read_header-clause-opened : goal.returns-in-Ok-read_header-clause-opened
returns-in-Ok-read_header-clause-opened g c = rw c.begun.ensures (opens _ _ c.in-Ok-read_header.section c.in-Ok-read_header.ensures)

-- This proof is here for speed: a search would compute the length of the room.
pub read_header-requires : goal.read_header-requires
read_header-requires g c = omega (arith, c.as_mut_slice.ensures.len, c.in-Ok.ensures.len)

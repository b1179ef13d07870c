-- By the octets of the header, for speed: without these proofs the prover tries other tactics on a mutant.
use Rattle.macsec_pcap.proofs.writer.write_header.Goals as goal

pub returns-clause-whole : goal.returns-clause-whole
returns-clause-whole g c = rw c.header.ensures at c.write_piece.ensures.whole

pub returns-clause-cut : goal.returns-clause-cut
returns-clause-cut g c = rw c.header.ensures at c.write_piece.ensures.cut

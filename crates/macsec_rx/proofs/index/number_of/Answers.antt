-- Writing the number that octets are read as gives the octets again, by the lemma `be_bytes_8`.
use Rattle.std.proofs.{Common.rules, lemmas.Nat.be_bytes_8}
use Rattle.macsec_rx.proofs.index.number_of.Goals as goal

pub returns : goal.returns
returns c = be_bytes_8 c.args.sci.0 c.from_be_bytes.result (search rules) (search rules) c.from_be_bytes.ensures

-- The octets written are the encoding; one goal for each arm and clause. Written out for speed.
use Rattle.std.proofs.{Common.arith, lemmas.Grind.common_steps}
use Rattle.macsec_tag.proofs.writing.write_tag.Goals as goal

pub returns-in-Some-clause-length : goal.returns-in-Some-clause-length
returns-in-Some-clause-length c = grind (arith, common_steps)

pub returns-in-Some-clause-octets : goal.returns-in-Some-clause-octets
returns-in-Some-clause-octets c = grind (arith, common_steps)

pub returns-in-None-clause-length : goal.returns-in-None-clause-length
returns-in-None-clause-length c = grind (arith, common_steps)

pub returns-in-None-clause-octets : goal.returns-in-None-clause-octets
returns-in-None-clause-octets c = grind (arith, common_steps)

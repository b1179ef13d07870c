-- The result is the frame's octets, and they are octets because they come from a vector of octets. Proved by search;
-- written out for speed.
use Rattle.std.proofs.Common.{rules}
use Rattle.macsec_commands.proofs.frame.Frame.into_octets.Goals as goal

pub returns-clause-octets : goal.returns-clause-octets
returns-clause-octets c = search rules

pub returns-clause-each : goal.returns-clause-each
returns-clause-each c = search rules

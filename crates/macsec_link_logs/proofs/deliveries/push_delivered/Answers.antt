-- Two cases: the frame has an SA, or none.
use Rattle.std.proofs.Common.{rules}
use Rattle.macsec_link_logs.proofs.deliveries.push_delivered.Goals as goal

pub returns-in-Some : goal.returns-in-Some
returns-in-Some c = search rules

pub returns-in-None : goal.returns-in-None
returns-in-None c = search rules

-- The fault is the first one of the definition; one goal for a wrong tag form, one for no fault. Proved by search;
-- written out for speed.
use Rattle.std.proofs.Common.{rules}
use Rattle.macsec_commands.proofs.config.EndConfig.fault.Goals as goal

pub returns-then-is_unfit-clause-fault : goal.returns-then-is_unfit-clause-fault
returns-then-is_unfit-clause-fault c = search rules

pub returns-clause-fault : goal.returns-clause-fault
returns-clause-fault c = search rules

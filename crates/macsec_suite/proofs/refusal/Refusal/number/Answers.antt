-- The numbers are as defined. Proved by search; written out so that a wrong body is refused quickly.
use Rattle.std.proofs.Common.{rules}
use Rattle.macsec_suite.proofs.refusal.Refusal.number.Goals as goal

pub returns : goal.returns
returns c = search rules

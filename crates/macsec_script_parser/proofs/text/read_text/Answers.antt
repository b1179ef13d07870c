-- A failed read is a fault of every input.
use Rattle.std.proofs.Common.{List, ℕ, Option, None, Some, IfSome}
use Rattle.macsec_script_parser.proofs.text.read_text.Goals as goal

any_input : (input : Option (List ℕ)) → IfSome input (λ all. Unit {0})
any_input None = tt
any_input (Some all) = tt

pub returns-in-Err-clause-text : goal.returns-in-Err-clause-text
returns-in-Err-clause-text g c = rw c.in-Err.ensures.fault (any_input _)

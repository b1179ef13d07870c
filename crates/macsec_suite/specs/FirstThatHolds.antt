-- The first result whose condition holds.
use Rattle.std.specs.Prelude.{List, [], ◌∷◌, Bool, if◌then◌else◌, Option, Some, None}

abbrev pub first_that_holds : {A : Type 0} → List (A × Bool) → Option A
first_that_holds [] = None
first_that_holds (answer ∷ answers) = if answer.1 then Some answer.0 else first_that_holds answers

-- The state of an endpoint after the borrow of its frame buffer has ended.
use Rattle.std.specs.Prelude.{◌≡◌}
use Rattle.std.specs.Borrow.{MutBor, Fml}
use Rattle.std.specs.Io.BufRead.{Rests}
use Rattle.macsec_secy.specs.contracts.Secy.{the_row}
use Rattle.macsec_secy.specs.State.{State}

-- after the borrow has ended, the endpoint is in this state
abbrev pub RestsAs : MutBor State → State → Fml
RestsAs s after = Rests the_row s (λ v. v ≡ after)

-- What an endpoint that can reserve ahead is once the borrow of its frame buffer is over.
use Rattle.std.specs.Prelude.{◌≡◌}
use Rattle.std.specs.Borrow.{MutBor, Fml}
use Rattle.std.specs.Io.BufRead.{Rests}
use Rattle.macsec_ahead.specs.contracts.keeper.AheadKeeper.{the_row}
use Rattle.macsec_ahead.specs.Ahead.{Ahead}

-- once the borrow is over, the endpoint is in this state
abbrev pub RestsAs : MutBor Ahead → Ahead → Fml
RestsAs a after = Rests the_row a (λ v. v ≡ after)

use Rattle.macsec_field128.proofs.Carryless.{carryless_adds_in_first, carryless_adds_in_second, carryless_of_one}
use Rattle.macsec_field128.proofs.Carryless.{carryless_moves_with_first, carryless_moves_with_second}
use Rattle.macsec_field128.proofs.laws.carryless_laws.Goals as goal

pub returns : goal.returns
returns c = record {
  adds_first = carryless_adds_in_first;
  adds_second = carryless_adds_in_second;
  one = carryless_of_one;
  moves_first = carryless_moves_with_first;
  moves_second = carryless_moves_with_second;
}

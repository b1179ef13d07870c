use Rattle.macsec_hash_keys.proofs.{Inverses.{has_inverses, no_zero_divisors}, Products.{commutes, one_left}}
use Rattle.macsec_hash_keys.proofs.laws.blocks_are_a_field.Goals as goal

pub returns-clause-commutes : goal.returns-clause-commutes
returns-clause-commutes c = commutes

pub returns-clause-one : goal.returns-clause-one
returns-clause-one c = one_left

pub returns-clause-inverses : goal.returns-clause-inverses
returns-clause-inverses c = has_inverses

pub returns-clause-no_zero_divisors : goal.returns-clause-no_zero_divisors
returns-clause-no_zero_divisors c = no_zero_divisors

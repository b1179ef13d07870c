-- Both clauses by the lemmas of `UsedNumbers`: packet numbers rise under each key, and none is used twice.
use Rattle.macsec_secy.proofs.UsedNumbers.{uses_no_number_twice, uses_rising_numbers}
use Rattle.macsec_secy.proofs.laws.uses_no_number_twice.Goals as goal

pub returns-clause-rising : goal.returns-clause-rising
returns-clause-rising c = uses_rising_numbers

pub returns-clause-no_two : goal.returns-clause-no_two
returns-clause-no_two c = uses_no_number_twice

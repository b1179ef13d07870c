-- One clause each: from the step that retires a key on it is retired and unused (`GivenUp`), and then its octets
-- decide nothing but the refusal KeyRepeated (`OtherOctets`).
use Rattle.macsec_secy.proofs.{GivenUp.{gives_up, stays_given_up, stays_replaced}, OtherOctets.steps_alike}
use Rattle.macsec_secy.proofs.laws.retired_keys_decide_nothing.Goals as goal

pub returns-clause-begins : goal.returns-clause-begins
returns-clause-begins c = gives_up

pub returns-clause-stays : goal.returns-clause-stays
returns-clause-stays c = stays_given_up

pub returns-clause-replaced : goal.returns-clause-replaced
returns-clause-replaced c = stays_replaced

pub returns-clause-alike : goal.returns-clause-alike
returns-clause-alike c = steps_alike

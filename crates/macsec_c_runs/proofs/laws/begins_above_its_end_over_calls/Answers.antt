use Rattle.macsec_c_runs.proofs.SingleCalls.{begins_above_its_end, keeps_ends, refuses_below_end, remembers_end}
use Rattle.macsec_c_runs.proofs.laws.begins_above_its_end_over_calls.Goals as goal

pub returns-clause-remembers : goal.returns-clause-remembers
returns-clause-remembers c = remembers_end c.begins_above_its_end_renewing.ensures.remembers

pub returns-clause-keeps : goal.returns-clause-keeps
returns-clause-keeps c =
    λ e calls key sci an. keeps_ends c.begins_above_its_end_renewing.ensures.keeps key sci an calls e

pub returns-clause-refuses : goal.returns-clause-refuses
returns-clause-refuses c = refuses_below_end c.begins_above_its_end_renewing.ensures.refuses

pub returns-clause-begins : goal.returns-clause-begins
returns-clause-begins c = begins_above_its_end c.begins_above_its_end_renewing.ensures.remembers
    c.begins_above_its_end_renewing.ensures.keeps c.begins_above_its_end_renewing.ensures.refuses

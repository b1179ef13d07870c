-- By case: each arm by the definition at its value.
use Rattle.{std.proofs.Common.{ap, sym}, macsec_c_values.specs.Statuses.number_of_verdict}
use Rattle.macsec_c_values.proofs.statuses.number_of_verdict.Goals as goal

pub returns-in-Untagged : goal.returns-in-Untagged
returns-in-Untagged c = ap number_of_verdict (sym c.in-Untagged.is)

pub returns-in-NoTag : goal.returns-in-NoTag
returns-in-NoTag c = ap number_of_verdict (sym c.in-NoTag.is)

pub returns-in-BadTag : goal.returns-in-BadTag
returns-in-BadTag c = ap number_of_verdict (sym c.in-BadTag.is)

pub returns-in-Reserved : goal.returns-in-Reserved
returns-in-Reserved c = ap number_of_verdict (sym c.in-Reserved.is)

pub returns-in-NoSaError : goal.returns-in-NoSaError
returns-in-NoSaError c = ap number_of_verdict (sym c.in-NoSaError.is)

pub returns-in-NoSa : goal.returns-in-NoSa
returns-in-NoSa c = ap number_of_verdict (sym c.in-NoSa.is)

pub returns-in-Late : goal.returns-in-Late
returns-in-Late c = ap number_of_verdict (sym c.in-Late.is)

pub returns-in-NotValid : goal.returns-in-NotValid
returns-in-NotValid c = ap number_of_verdict (sym c.in-NotValid.is)

pub returns-in-Unchecked : goal.returns-in-Unchecked
returns-in-Unchecked c = ap number_of_verdict (sym c.in-Unchecked.is)

pub returns-in-Delayed : goal.returns-in-Delayed
returns-in-Delayed c = ap number_of_verdict (sym c.in-Delayed.is)

pub returns-in-Invalid : goal.returns-in-Invalid
returns-in-Invalid c = ap number_of_verdict (sym c.in-Invalid.is)

pub returns-in-Passed : goal.returns-in-Passed
returns-in-Passed c = ap number_of_verdict (sym c.in-Passed.is)

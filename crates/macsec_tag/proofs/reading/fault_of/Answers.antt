-- The fault is the first one of the table. Written out for speed.
use Rattle.std.proofs.{Common.{arith, rules}, lemmas.Grind.common_steps}
use Rattle.macsec_tag.proofs.reading.fault_of.Goals as goal

pub returns-then-frame-lt-SCI_PLACE : goal.returns-then-frame-lt-SCI_PLACE
returns-then-frame-lt-SCI_PLACE c = grind (arith, common_steps)

pub bounds-frame-14 : goal.bounds-frame-14
bounds-frame-14 c = omega arith

pub returns-then-frame-lt-AFTER_SCI : goal.returns-then-frame-lt-AFTER_SCI
returns-then-frame-lt-AFTER_SCI c = grind (arith, common_steps)

pub returns-then-tci-ne0 : goal.returns-then-tci-ne0
returns-then-tci-ne0 c = grind (arith, common_steps)

pub returns-then-tci-ne0-3 : goal.returns-then-tci-ne0-3
returns-then-tci-ne0-3 c = grind (arith, common_steps)

pub bounds-frame-15 : goal.bounds-frame-15
bounds-frame-15 c = omega arith

pub returns-then-frame-ge64 : goal.returns-then-frame-ge64
returns-then-frame-ge64 c = grind (arith, common_steps)

pub bounds-frame-15-2 : goal.bounds-frame-15-2
bounds-frame-15-2 c = omega arith

pub is_wrong_length-requires-clause-long : goal.is_wrong_length-requires-clause-long
is_wrong_length-requires-clause-long c = omega arith

pub is_wrong_length-requires-clause-tag : goal.is_wrong_length-requires-clause-tag
is_wrong_length-requires-clause-tag c = grind (arith, common_steps)

pub returns : goal.returns
returns c = search rules

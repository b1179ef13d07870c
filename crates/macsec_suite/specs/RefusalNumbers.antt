-- The numbers of the refusals. All commands share one list.
use Rattle.std.specs.Prelude.{ℕ}
use Rattle.macsec_suite.specs.declared.refusal.Refusal.{Refusal}
use Rattle.macsec_suite.specs.declared.refusal.Refusal.TheVariants.{KeyLength, Offset, KeyNumberUsed, KeyRepeated, NoKey, KeyRetired, KeyInUse, OwnSci, ScTaken}
use Rattle.macsec_suite.specs.declared.refusal.Refusal.TheVariants.{ScFull, NoSc, AnTaken, NoSa, PnRange, PnLower, PnFloor, SsciOwn, Window, SciForm, Exhausted}

abbrev pub number_of_refusal : Refusal → ℕ
number_of_refusal KeyLength = 1
number_of_refusal Offset = 2
number_of_refusal KeyNumberUsed = 3
number_of_refusal KeyRepeated = 4
number_of_refusal NoKey = 5
number_of_refusal KeyRetired = 6
number_of_refusal KeyInUse = 7
number_of_refusal OwnSci = 8
number_of_refusal ScTaken = 9
number_of_refusal ScFull = 10
number_of_refusal NoSc = 11
number_of_refusal AnTaken = 12
number_of_refusal NoSa = 13
number_of_refusal PnRange = 14
number_of_refusal PnLower = 15
number_of_refusal PnFloor = 16
number_of_refusal SsciOwn = 17
number_of_refusal Window = 18
number_of_refusal SciForm = 19
number_of_refusal Exhausted = 20

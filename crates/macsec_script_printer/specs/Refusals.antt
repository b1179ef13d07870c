-- The names of refusals, and the text of a refusal.
use Rattle.std.specs.Prelude.{ℕ, List, ◌++◌, decimal, codes}
use Rattle.macsec_suite.specs.declared.refusal.Refusal.{Refusal}
use Rattle.macsec_suite.specs.declared.refusal.Refusal.TheVariants.{KeyLength, Offset, KeyNumberUsed, KeyRepeated, NoKey, KeyRetired, KeyInUse, OwnSci, ScTaken}
use Rattle.macsec_suite.specs.declared.refusal.Refusal.TheVariants.{ScFull, NoSc, AnTaken, NoSa, PnRange, PnLower, PnFloor, SsciOwn, Window, SciForm, Exhausted}
use Rattle.macsec_suite.specs.RefusalNumbers.{number_of_refusal}

abbrev pub refusal_name : Refusal → List ℕ
refusal_name KeyLength = codes "KeyLength"
refusal_name Offset = codes "Offset"
refusal_name KeyNumberUsed = codes "KeyNumberUsed"
refusal_name KeyRepeated = codes "KeyRepeated"
refusal_name NoKey = codes "NoKey"
refusal_name KeyRetired = codes "KeyRetired"
refusal_name KeyInUse = codes "KeyInUse"
refusal_name OwnSci = codes "OwnSci"
refusal_name ScTaken = codes "ScTaken"
refusal_name ScFull = codes "ScFull"
refusal_name NoSc = codes "NoSc"
refusal_name AnTaken = codes "AnTaken"
refusal_name NoSa = codes "NoSa"
refusal_name PnRange = codes "PnRange"
refusal_name PnLower = codes "PnLower"
refusal_name PnFloor = codes "PnFloor"
refusal_name SsciOwn = codes "SsciOwn"
refusal_name Window = codes "Window"
refusal_name SciForm = codes "SciForm"
refusal_name Exhausted = codes "Exhausted"

-- the number and the name of a refusal
abbrev pub refusal_text : Refusal → List ℕ
refusal_text refusal = decimal (number_of_refusal refusal) ++ codes " " ++ refusal_name refusal

-- The names of the verdicts: the names of their counters (IEEE 802.1AE, 10.7) without InPkts.
use Rattle.std.specs.Prelude.{ℕ, List, codes}
use Rattle.macsec_rx.specs.declared.Verdict.{Verdict}
use Rattle.macsec_rx.specs.declared.Verdict.TheVariants.{Untagged, NoTag, BadTag, Reserved, NoSaError, NoSa, Late, NotValid, Unchecked, Delayed, Invalid, Passed}

abbrev pub verdict_name : Verdict → List ℕ
verdict_name Untagged = codes "Untagged"
verdict_name NoTag = codes "NoTag"
verdict_name BadTag = codes "BadTag"
verdict_name Reserved = codes "Reserved"
verdict_name NoSaError = codes "NoSAError"
verdict_name NoSa = codes "NoSA"
verdict_name Late = codes "Late"
verdict_name NotValid = codes "NotValid"
verdict_name Unchecked = codes "Unchecked"
verdict_name Delayed = codes "Delayed"
verdict_name Invalid = codes "Invalid"
verdict_name Passed = codes "OK"

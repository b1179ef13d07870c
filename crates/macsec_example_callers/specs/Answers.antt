-- The results of the callers, from the outputs of the machine.
use Rattle.std.specs.Prelude.{ℕ, length, Bool, true, false, Option, Some, None, Result, Ok, Err}
use Rattle.macsec_tag.specs.declared.identifiers.Sci.{Sci}
use Rattle.macsec_tag.specs.Table.{Reading, untagged, bad, tagged}
use Rattle.macsec_rx.specs.declared.Verdict.{Verdict}
use Rattle.macsec_rx.specs.declared.Verdict.TheVariants.{Untagged, NoTag, BadTag, Reserved, NoSa, NoSaError, Late, NotValid, Unchecked, Delayed, Invalid, Passed}
use Rattle.macsec_secy.specs.declared.fault.FrameFault.{FrameFault}
use Rattle.macsec_secy.specs.Step.{Output, done, refused, dropped_no_sa, dropped_too_long, leaves, received, fault}

-- how many octets are sent, or the fault of the frame
abbrev pub octets_leaving : Output → Result ℕ FrameFault
octets_leaving done = Ok 0
octets_leaving (refused r) = Ok 0
octets_leaving (fault f) = Err f
octets_leaving (leaves frame under) = Ok (length frame)
octets_leaving dropped_no_sa = Ok 0
octets_leaving dropped_too_long = Ok 0
octets_leaving (received verdict row shown delivered) = Ok 0

-- the verdict is that the frame is valid and not late
abbrev pub is_passed : Verdict → Bool
is_passed Untagged = false
is_passed NoTag = false
is_passed BadTag = false
is_passed Reserved = false
is_passed NoSa = false
is_passed NoSaError = false
is_passed Late = false
is_passed NotValid = false
is_passed Unchecked = false
is_passed Delayed = false
is_passed Invalid = false
is_passed Passed = true

-- whether a received frame was found valid and not late, or its fault
abbrev pub passes : Output → Result Bool FrameFault
passes done = Ok false
passes (refused r) = Ok false
passes (fault f) = Err f
passes (leaves frame under) = Ok false
passes dropped_no_sa = Ok false
passes dropped_too_long = Ok false
passes (received verdict row shown delivered) = Ok (is_passed verdict)

-- the 32 bits of the packet number and the SCI of a SecTAG
abbrev pub number_and_sci : Reading → Option (ℕ × Option Sci)
number_and_sci untagged = None
number_and_sci (bad why) = None
number_and_sci (tagged p) = Some (p.tag.pn, p.tag.sci)

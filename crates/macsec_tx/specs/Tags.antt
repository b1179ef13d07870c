-- The SecTAG of a frame that is sent (IEEE 802.1AE, 9.5 and 10.5.3).
use Rattle.std.specs.Prelude.{ℕ, List, take, Bool, false, nat_lt, if◌then◌else◌, Option, Some, None}
use Rattle.macsec_gcm.specs.Octets.{same_octets}
use Rattle.macsec_tag.specs.declared.identifiers.Sci.{Sci}
use Rattle.macsec_commands.specs.declared.form.TagForm.{TagForm}
use Rattle.macsec_commands.specs.declared.form.TagForm.TheVariants as form

-- the source address is the SCI's first six octets (9.9)
abbrev pub is_own : Sci → List ℕ → Bool
is_own sci sa = same_octets sa (take 6 sci.0)

-- the SCI that the SecTAG carries, if any, in which case SC is set; `many` is whether there is more than one receive SC
abbrev pub sci_sent : TagForm → Bool → Sci → List ℕ → Option Sci
sci_sent form.Auto many sci sa = if many then Some sci else None
sci_sent form.Sci many sci sa = Some sci
sci_sent form.Es many sci sa = if is_own sci sa then None else Some sci
sci_sent form.Scb many sci sa = if is_own sci sa then None else Some sci

abbrev pub es_sent : TagForm → Sci → List ℕ → Bool
es_sent form.Auto sci sa = false
es_sent form.Sci sci sa = false
es_sent form.Es sci sa = is_own sci sa
es_sent form.Scb sci sa = false

abbrev pub scb_sent : TagForm → Sci → List ℕ → Bool
scb_sent form.Auto sci sa = false
scb_sent form.Sci sci sa = false
scb_sent form.Es sci sa = false
scb_sent form.Scb sci sa = is_own sci sa

-- the SL for this number of octets of Secure Data: 0 means 48 or more (9.7)
abbrev pub sl_of : ℕ → ℕ
sl_of n = if nat_lt n 48 then n else 0

-- Cipher suites: their keys, their packet numbers and their IVs (IEEE 802.1AE, clause 14).
use Rattle.std.specs.Prelude.{ℕ, ◌-◌, ◌^◌, List, ◌++◌, Bool, true, false, if◌then◌else◌}
use Rattle.std.specs.Int.{w32, w64, to_be_bytes}
use Rattle.macsec_gcm.specs.Octets.{sum_with_stream}
use Rattle.macsec_tag.specs.declared.identifiers.Sci.{Sci}
use Rattle.macsec_suite.specs.declared.suite.Suite.{Suite}
use Rattle.macsec_suite.specs.declared.suite.Suite.TheVariants.{Gcm128, Gcm256, Xpn128, Xpn256}

-- what a suite is: how many octets a key has, whether packet numbers are extended, and the suite's number in calls from C
pub record SuiteFacts : Type 0 where
  pub key_length : ℕ
  pub is_xpn : Bool
  pub number : ℕ

-- 14.5 to 14.8
abbrev pub facts_of : Suite → SuiteFacts
facts_of Gcm128 = record { key_length = 16; is_xpn = false; number = 1 }
facts_of Gcm256 = record { key_length = 32; is_xpn = false; number = 2 }
facts_of Xpn128 = record { key_length = 16; is_xpn = true; number = 3 }
facts_of Xpn256 = record { key_length = 32; is_xpn = true; number = 4 }

abbrev pub key_length : Suite → ℕ
key_length suite = (facts_of suite).key_length

-- packet numbers are extended: they have 64 bits, and the SecTAG carries the lower 32
abbrev pub is_xpn : Suite → Bool
is_xpn suite = (facts_of suite).is_xpn

abbrev pub number_of_suite : Suite → ℕ
number_of_suite suite = (facts_of suite).number

abbrev pub last_of : Suite → ℕ
last_of suite = if is_xpn suite then 2 ^ 64 - 1 else 2 ^ 32 - 1

-- the exclusive or of two lists of 12 octets: the salt, and the SSCI (4) followed by the packet number (8) (14.7, 14.8)
abbrev pub extended_iv : ℕ → List ℕ → ℕ → List ℕ
extended_iv ssci salt pn = sum_with_stream salt (to_be_bytes w32 ssci ++ to_be_bytes w64 pn)

-- the IV of a frame: the SCI followed by the packet number in four octets (14.5, 14.6); with extended packet numbers it
-- depends on SSCI, salt and packet number, and not on the SCI
abbrev pub iv_of : Suite → Sci → ℕ → List ℕ → ℕ → List ℕ
iv_of suite sci ssci salt pn = if is_xpn suite then extended_iv ssci salt pn else sci.0 ++ to_be_bytes w32 pn

-- the widest replay windows with 32-bit and with extended packet numbers
abbrev pub widest_short_window : ℕ
widest_short_window = 2 ^ 32 - 1

abbrev pub widest_extended_window : ℕ
widest_extended_window = 2 ^ 30 - 1

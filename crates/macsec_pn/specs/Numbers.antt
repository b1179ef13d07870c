-- Packet numbers of receive SAs: recovery of the upper half, lateness, acceptance and the replay window (IEEE 802.1AE,
-- 10.6).
use Rattle.std.specs.Prelude.{ℕ, ◌+◌, ◌-◌, ◌*◌, ◌/◌, ◌%◌, ◌^◌, max, Bool, nat_lt, nat_le, ◌&&◌, if◌then◌else◌, Option, Some, None}
use Rattle.macsec_pn.specs.declared.RxNumbers.{RxNumbers}

-- the upper half of an extended packet number: the lowest acceptable number's, or one more if the low half has wrapped,
-- that is, if it is below 2^31 and the lowest acceptable number's low half is not
abbrev pub upper_half : ℕ → ℕ → ℕ
upper_half lowest low =
    lowest / 2 ^ 32 + (if nat_lt low (2 ^ 31) && nat_le (2 ^ 31) (lowest % 2 ^ 32) then 1 else 0)

-- the packet number n, if it is from 1 to 2^64 - 1
abbrev pub extended_number : ℕ → Option ℕ
extended_number n = if nat_le 1 n && nat_lt n (2 ^ 64) then Some n else None

-- the packet number of a frame whose SecTAG has this low half; without extended packet numbers it is the low half
-- itself
abbrev pub recovered_number : Bool → ℕ → ℕ → Option ℕ
recovered_number xpn lowest low =
    if xpn then extended_number (upper_half lowest low * 2 ^ 32 + low) else Some low

-- a packet number below the lowest acceptable one is late
abbrev pub is_late : ℕ → ℕ → Bool
is_late lowest pn = nat_lt pn lowest

-- the lowest acceptable number is at least the next one minus the window, and never falls
abbrev pub narrow : RxNumbers → ℕ → RxNumbers
narrow numbers window = record numbers { lowest = max numbers.lowest (numbers.next - window) }

-- the numbers after a frame with the packet number pn is accepted
abbrev pub accept : RxNumbers → ℕ → ℕ → RxNumbers
accept numbers pn window = narrow (record numbers { next = max numbers.next (pn + 1) }) window

-- the numbers after the lowest acceptable one is raised to pn
abbrev pub raise : RxNumbers → ℕ → RxNumbers
raise numbers pn = record { next = max numbers.next pn; lowest = pn }

-- Times (draft-ietf-opsawg-pcapng, 4.2 and 4.3): a 64-bit number of units since the beginning of 1970. The interface's
-- if_tsresol gives the unit, and its if_tsoffset is added in seconds.
use Rattle.std.specs.Prelude.{ℕ, ◌+◌, ◌-◌, ◌*◌, ◌/◌, ◌%◌, ◌^◌, nat_lt, if◌then◌else◌, Option, Some, None, unwrap_or}
use Rattle.macsec_pcapng.specs.declared.interfaces.Interface.{Interface}
use Rattle.macsec_pcapng.specs.declared.times.Time.{Time}

-- units per second: a power of two if the highest bit of if_tsresol is set, else a power of ten
abbrev pub units : ℕ → ℕ
units resolution = if nat_lt 127 resolution then 2 ^ (resolution - 128) else 10 ^ resolution

-- the same time in nanoseconds, rounded down
abbrev pub nanoseconds : ℕ → ℕ → ℕ
nanoseconds ticks resolution = ticks * 1000000000 / units resolution

-- seconds plus a 64-bit offset in two's complement; none before 1970
abbrev pub with_offset : ℕ → ℕ → Option ℕ
with_offset seconds offset =
    if nat_lt offset (2 ^ 63) then Some (seconds + offset)
    else if nat_lt (seconds + offset) (2 ^ 64) then None
    else Some (seconds + offset - 2 ^ 64)

-- a time whose seconds fit into 32 bits
abbrev pub time_in_range : Option ℕ → ℕ → Option Time
time_in_range None nanoseconds = None
time_in_range (Some seconds) nanoseconds =
    if nat_lt seconds (2 ^ 32) then Some (record { seconds = seconds; nanoseconds = nanoseconds }) else None

abbrev pub time_by : ℕ → ℕ → Option Time
time_by nanoseconds offset = time_in_range (with_offset (nanoseconds / 1000000000) offset) (nanoseconds % 1000000000)

-- the time after `ticks` units of this interface. Without these options the unit is the microsecond, and the offset is 0
abbrev pub time_of : Interface → ℕ → Option Time
time_of interface ticks = time_by (nanoseconds ticks (unwrap_or interface.resolution 6)) (unwrap_or interface.offset 0)

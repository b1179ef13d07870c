-- The limits of an endpoint.
use Rattle.std.specs.Prelude.{ℕ}

-- the smallest value of `max_frame`, in octets; the largest is the length of the longest frame
abbrev pub min_max_frame : ℕ
min_max_frame = 64

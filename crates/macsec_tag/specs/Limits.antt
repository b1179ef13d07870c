-- Limits on the length of frames, of the client and of the link.
use Rattle.std.specs.Prelude.{ℕ}

-- the shortest frame, in octets: two addresses and an EtherType
abbrev pub min_frame_len : ℕ
min_frame_len = 14

-- the longest frame, in octets; an endpoint's own limit, `max_frame`, is not above it
abbrev pub max_frame_len : ℕ
max_frame_len = 9248

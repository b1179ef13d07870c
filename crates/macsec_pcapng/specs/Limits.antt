-- The limits of a reader of pcapng files.
use Rattle.std.specs.Prelude.{ℕ}

-- the most octets of a block's body that are kept: the 20 before an enhanced packet's data, and the longest packet
abbrev pub room_length : ℕ
room_length = 262164

-- the most interfaces of a section
abbrev pub max_interfaces : ℕ
max_interfaces = 256

-- the most options of an interface; no more fit into the kept octets of a body
abbrev pub max_options : ℕ
max_options = 65541

-- after its first block, a file has fewer blocks than this
abbrev pub max_blocks : ℕ
max_blocks = 4294967295

-- The interfaces of a section (draft-ietf-opsawg-pcapng, 4.2 Interface Description Block): link type (2 octets),
-- reserved (2), snap length (4), and options.
use Rattle.std.specs.Prelude.{ℕ, zero, suc, ◌+◌, ◌/◌, ◌*◌, Bool, ◌==◌, List, length, take, drop, slice_index, nat_lt, if◌then◌else◌, Option, Some, None, Result, Ok, Err}
use Rattle.std.specs.Option.{option_or}
use Rattle.macsec_pcap.specs.declared.fault.PcapFault.{PcapFault}
use Rattle.macsec_pcap.specs.declared.fault.PcapFault.TheVariants.{BlockLength}
use Rattle.macsec_pcap.specs.declared.form.Order.{Order}
use Rattle.macsec_pcap.specs.Numbers.{number}
use Rattle.macsec_pcapng.specs.declared.interfaces.Interface.{Interface}
use Rattle.macsec_pcapng.specs.Limits.{max_options, room_length}

-- the link type of Ethernet
abbrev pub ethernet : ℕ
ethernet = 1

abbrev pub is_ethernet : Interface → Bool
is_ethernet interface = interface.link_type == ethernet

-- ---- options (3.5): a code (2 octets), the length of the value (2), and the value, padded to a multiple of four

abbrev pub option_code : Order → List ℕ → ℕ
option_code order octets = number order 2 octets

abbrev pub value_length : Order → List ℕ → ℕ
value_length order octets = number order 2 (drop 2 octets)

abbrev pub padded : ℕ → ℕ
padded len = (len + 3) / 4 * 4

-- the length of an option, in octets
abbrev pub option_length : Order → List ℕ → ℕ
option_length order octets = 4 + padded (value_length order octets)

-- two options are read: if_tsresol (code 9, one octet) and if_tsoffset (code 14, eight octets). Of a repeated one the
-- first counts. All others are ignored
abbrev pub with_option : Order → Interface → ℕ → List ℕ → Result Interface PcapFault
with_option order interface code value =
    if code == 9 then (if length value == 1 then Ok (record interface { resolution = option_or interface.resolution (Some (slice_index value 0)) }) else Err BlockLength)
    else if code == 14 then (if length value == 8 then Ok (record interface { offset = option_or interface.offset (Some (number order 8 value)) }) else Err BlockLength)
    else Ok interface

abbrev pub behind_option : Result Interface PcapFault → ℕ → Result (Option (Interface × ℕ)) PcapFault
behind_option (Err fault) n = Err fault
behind_option (Ok interface) n = Ok (Some (interface, n))

-- the interface after the option that begins here, and the length of that option; none if fewer than four octets are
-- left, or at code 0 (opt_endofopt)
abbrev pub option_at : Order → List ℕ → Interface → Result (Option (Interface × ℕ)) PcapFault
option_at order octets interface =
    if nat_lt (length octets) 4 then Ok None
    else if option_code order octets == 0 then Ok None
    else if nat_lt (length octets) (option_length order octets) then Err BlockLength
    else behind_option (with_option order interface (option_code order octets) (take (value_length order octets) (drop 4 octets))) (option_length order octets)

abbrev pub after_option : Result (Option (Interface × ℕ)) PcapFault → Interface → List ℕ → (List ℕ → Interface → Result Interface PcapFault) → Result Interface PcapFault
after_option (Err fault) interface octets more = Err fault
after_option (Ok None) interface octets more = Ok interface
after_option (Ok (Some (described, n))) interface octets more = more (drop n octets) described

-- the interface after the options that begin here, at most n
unfoldable pub options_in : Order → ℕ → List ℕ → Interface → Result Interface PcapFault
options_in order zero octets interface = Ok interface
options_in order (suc n) octets interface =
    after_option (option_at order octets interface) interface octets (λ rest described. options_in order n rest described)

-- ---- the description

-- before its options are read
abbrev pub plain_interface : Order → List ℕ → Interface
plain_interface order front =
    record { link_type = number order 2 front; snap_len = number order 4 (drop 4 front); resolution = None; offset = None }

-- the interface that a body of `len` octets describes; the whole body is read, so it must not be longer than what is
-- kept
abbrev pub interface_of : Order → ℕ → List ℕ → Result Interface PcapFault
interface_of order len front =
    if nat_lt room_length len then Err BlockLength
    else options_in order max_options (drop 8 front) (plain_interface order front)

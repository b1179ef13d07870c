-- The header of a capture file: magic number (4 octets), major and minor version (2 each), time zone (4), accuracy (4),
-- snapshot length (4) and link type (4).
use Rattle.std.specs.Prelude.{ℕ, Bool, ◌==◌, ◌&&◌, List, length, drop, nat_lt, not, if◌then◌else◌, Option, Some, None, Result, Ok, Err, option_map}
use Rattle.macsec_pcap.specs.declared.fault.PcapFault.{PcapFault}
use Rattle.macsec_pcap.specs.declared.fault.PcapFault.TheVariants.{Magic, Version, LinkType, CutHeader}
use Rattle.macsec_pcap.specs.declared.form.Form.{Form}
use Rattle.macsec_pcap.specs.declared.form.Order.{Order}
use Rattle.macsec_pcap.specs.declared.form.Order.TheVariants.{Big, Little}
use Rattle.macsec_pcap.specs.declared.form.Resolution.{Resolution}
use Rattle.macsec_pcap.specs.declared.form.Resolution.TheVariants.{Micro, Nano}
use Rattle.macsec_pcap.specs.Limits.{header_length}
use Rattle.macsec_pcap.specs.Numbers.{number}

-- the magic number of a file with times in this unit
abbrev pub magic : Resolution → ℕ
magic Micro = 0xa1b2c3d4
magic Nano = 0xa1b23c4d

-- the unit with this magic number
abbrev pub resolution_of : ℕ → Option Resolution
resolution_of n = if n == magic Micro then Some Micro else if n == magic Nano then Some Nano else None

-- the form with this byte order, if the first four octets are a magic number in this order
abbrev pub form_in : Order → List ℕ → Option Form
form_in order octets = option_map (λ unit. record { order = order; resolution = unit }) (resolution_of (number order 4 octets))

-- the first form, or else the other
abbrev pub first_form : Option Form → Option Form → Option Form
first_form (Some form) other = Some form
first_form None other = other

-- the form of a file: its magic number is read in either byte order, and fixes the order of all other numbers
abbrev pub form_of : List ℕ → Option Form
form_of octets = first_form (form_in Big octets) (form_in Little octets)

-- the version is 2.4
abbrev pub is_version : Order → List ℕ → Bool
is_version order octets = (number order 2 (drop 4 octets) == 2) && (number order 2 (drop 6 octets) == 4)

-- the link type is Ethernet
abbrev pub is_ethernet : Order → List ℕ → Bool
is_ethernet order octets = number order 4 (drop 20 octets) == 1

-- a header of this form, or its first fault
abbrev pub header_in : Option Form → List ℕ → Result Form PcapFault
header_in None octets = Err Magic
header_in (Some form) octets =
    if not (is_version form.order octets) then Err Version
    else if not (is_ethernet form.order octets) then Err LinkType
    else Ok form

-- the form of a file, or the first fault of its header; time zone, accuracy and snapshot length are not checked
abbrev pub header_of : List ℕ → Result Form PcapFault
header_of file = if nat_lt (length file) header_length then Err CutHeader else header_in (form_of file) file

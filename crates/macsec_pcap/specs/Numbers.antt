-- Numbers in either byte order.
use Rattle.std.specs.Prelude.{ℕ, List}
use Rattle.byteorder.specs.Endian.{big_number, little_number}
use Rattle.macsec_pcap.specs.declared.form.Order.{Order}
use Rattle.macsec_pcap.specs.declared.form.Order.TheVariants.{Big, Little}

-- the number in the first n octets
abbrev pub number : Order → ℕ → List ℕ → ℕ
number Big n octets = big_number n octets
number Little n octets = little_number n octets

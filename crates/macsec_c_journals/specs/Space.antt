-- What a journal has allocated for its calls.
use Rattle.std.specs.Prelude.{◌≡◌, ◌≤◌, ◌/◌, ℕ}
use Rattle.macsec_reserve.specs.Journal.{record_length}

-- by the limit of the machine, the limit that is noted, and the capacities for records and for octets
pub record HasBuffers (limit noted records octets : ℕ) : Type 0 where
  pub same : limit ≡ noted
  pub record_space : limit / record_length ≤ records
  pub octet_space : limit ≤ octets

-- What a journal has allocated, so that no later call allocates.
use Rattle.std.specs.Prelude.{ℕ, ◌+◌, ◌*◌, ◌/◌, ◌^◌, ◌<◌, ◌≤◌}
use Rattle.macsec_reserve.specs.Journal.{record_length}
use Rattle.macsec_journal.specs.Disk.{sector_length}
use Rattle.macsec_journal.specs.Format.{copy_length}

-- by the limit of the file, the numbers of entries and of records, where records are written now and next, and the
-- capacities
pub record HasSpace (limit entry_count record_count now_at next_at entry_capacity record_capacity : ℕ) : Type 0 where
  pub small : limit < 2 ^ 32
  pub entries : entry_count + 1 < limit / record_length
  pub records : record_count < limit / record_length
  pub copies : 2 * copy_length record_count ≤ limit
  pub end : now_at ≤ limit + sector_length
  pub next : next_at ≤ limit
  pub entry_space : limit / record_length ≤ entry_capacity
  pub record_space : limit / record_length ≤ record_capacity

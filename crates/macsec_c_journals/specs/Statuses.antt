-- The statuses that only the calls with a journal return.
use Rattle.std.specs.Prelude.{ℕ}

-- the count of a journal is damaged, or does not agree with its entries
abbrev pub journal_damaged_status : ℕ
journal_damaged_status = 60

-- the entries of a journal would not fit into a file of its limit
abbrev pub journal_full_status : ℕ
journal_full_status = 61

-- an order to the journal is under way
abbrev pub journal_busy_status : ℕ
journal_busy_status = 62

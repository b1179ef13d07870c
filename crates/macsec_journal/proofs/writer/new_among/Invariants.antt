use Rattle.{std.proofs.Common.{◌≡◌, ◌≤◌, length, take}, macsec_journal.specs.Machine.new_among}
use Rattle.macsec_journal.proofs.writer.new_among.Given as goal

-- the records before the index are counted
abbrev pub invariant-loop-record : goal.invariant-loop-record
invariant-loop-record l = (l.count ≡ length (new_among l.entries (take l.record-index l.records))) ×
    (l.count ≤ l.record-index)

use Rattle.{std.proofs.Common.{◌≡◌, ◌≤◌, ◌-◌, length, slice_index}, macsec_gcm.specs.Streams.IsSumBelow}
use Rattle.macsec_gcm.proofs.key_stream.add_by_16.Given as goal

-- the first octets have the stream's octets added, and the others are unchanged
abbrev pub invariant-loop-text : goal.invariant-loop-text
invariant-loop-text l = record {
  within : l.done ≤ length l.text;
  same : length l.text ≡ length l.fn.text;
  sum : IsSumBelow (slice_index l.stream) l.fn.text l.text l.done;
}

abbrev pub decreases-loop-text : goal.decreases-loop-text
decreases-loop-text l = length l.initial.text - l.done

use Rattle.{
  std.proofs.Common.{◌+◌, ◌-◌, ◌≤◌, ℕ, List, length},
  macsec_gcm.specs.{Pieces.IsStreamAt, Streams.{IsSumBelow, key_stream}},
}
use Rattle.macsec_gcm.proofs.key_stream.KeyStream.add_to.Given as goal

-- as many octets of the key stream are used as octets of the piece are done, and were added to them
abbrev pub invariant-loop-done : goal.invariant-loop-done
invariant-loop-done l = record {
  within : l.done ≤ length l.piece;
  moved : (key icb : List ℕ) (n : ℕ) → IsStreamAt l.fn.self key icb n → IsStreamAt l.self key icb (n + l.done);
  sum : (key icb : List ℕ) (n : ℕ) → IsStreamAt l.fn.self key icb n → IsSumBelow (λ k. key_stream key icb (n + k)) l.fn.piece l.piece l.done;
}

abbrev pub decreases-loop-done : goal.decreases-loop-done
decreases-loop-done l = length l.initial.piece - l.done

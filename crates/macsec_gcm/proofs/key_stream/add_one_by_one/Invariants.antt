use Rattle.std.proofs.Common.{◌≡◌, ℕ, ◌<◌, ◌≤◌, get_or, bit_xor}
use Rattle.macsec_gcm.proofs.key_stream.add_one_by_one.Given as goal

-- the first k octets have the stream's octets added, and the others are unchanged
abbrev pub invariant-loop-k : goal.invariant-loop-k
invariant-loop-k l = record {
  done : (j : ℕ) → j < l.k → get_or l.text j 0 ≡ bit_xor (get_or l.fn.text j 0) (get_or l.stream j 0);
  left : (j : ℕ) → l.k ≤ j → get_or l.text j 0 ≡ get_or l.fn.text j 0;
}

use Rattle.{
  std.{proofs.Common.{◌≡◌, ◌-◌, ℕ, ◌<◌, [], length, slice_index_or}, specs.Fn.iterate},
  macsec_gcm.specs.Gcm.inc32,
}
use Rattle.macsec_gcm.proofs.counter_blocks.blocks_by_vectors.Given as goal

-- the first i of the N blocks are computed
abbrev pub invariant-loop-i : goal.invariant-loop-i
invariant-loop-i g l = record {
  count : length l.blocks ≡ g.row.N;
  made : (k : ℕ) → k < l.i → slice_index_or l.blocks k [] ≡ iterate inc32 k l.fn.first;
  last : l.last ≡ iterate inc32 (l.i - 1) l.fn.first;
}

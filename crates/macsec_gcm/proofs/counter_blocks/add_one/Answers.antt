use Rattle.{
  std.{proofs.lemmas.Simd.below_from_Fits, specs.Int.w8},
  macsec_gcm.proofs.CounterLanes.{first_kept, last_counts},
}
use Rattle.macsec_gcm.proofs.counter_blocks.add_one.Goals as goal

pub returns-clause-kept : goal.returns-clause-kept
returns-clause-kept c j lt = first_kept c.args.block j c.fits-block.0 (below_from_Fits w8 c.args.block c.fits-block.1)
    lt

pub returns-clause-counts : goal.returns-clause-counts
returns-clause-counts c j lt = last_counts c.args.block j c.fits-block.0
    (below_from_Fits w8 c.args.block c.fits-block.1) lt

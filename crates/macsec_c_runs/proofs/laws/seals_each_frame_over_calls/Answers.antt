use Rattle.macsec_c_runs.proofs.SingleCalls.{seals_each_frame}
use Rattle.macsec_c_runs.proofs.laws.seals_each_frame_over_calls.Goals as goal

pub returns : goal.returns
returns c = seals_each_frame c.seals_each_frame_renewing.ensures.leaves

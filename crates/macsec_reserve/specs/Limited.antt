-- A link frame whose packet number a keeping endpoint accepts only within limits for its receive SA.
use Rattle.std.specs.Prelude.{ℕ, List}
use Rattle.macsec_rx.specs.declared.within.PnLimits.{PnLimits}
use Rattle.macsec_secy.specs.Limited.{LimitedOutput, limited_step}
use Rattle.macsec_secy.specs.State.{State}
use Rattle.macsec_reserve.specs.Keeping.{Keeping}

abbrev pub with_limited : Keeping → LimitedOutput × State → LimitedOutput × Keeping
with_limited k answer = (answer.0, record k { secy = answer.1 })

-- the endpoint takes its step within the limits, and what is reserved stays
abbrev pub limited_keeping_step : Keeping → List PnLimits → List ℕ → LimitedOutput × Keeping
limited_keeping_step k limits frame = with_limited k (limited_step k.secy limits frame)

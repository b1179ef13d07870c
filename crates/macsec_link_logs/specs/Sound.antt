-- What holds of an end at all times.
use Rattle.macsec_secy.specs.Sound as endpoint
use Rattle.macsec_link_logs.specs.Logs.{AreLogged}
use Rattle.macsec_link_logs.specs.Ends.{EndState}

-- the endpoint is sound, and each receive SA has its log
pub record IsSoundEnd (e : EndState) : Type 0 where
  pub endpoint : endpoint.IsSound e.state
  pub logged : AreLogged e.state.rx.rows e.delivered

use Rattle.macsec_restarts.proofs.AheadInside.{asks_where_dropped, passes_once_reserved, wants_enough}
use Rattle.macsec_restarts.proofs.laws.accepts_once_reserved.Goals as goal

pub returns-clause-asks : goal.returns-clause-asks
returns-clause-asks c = asks_where_dropped

pub returns-clause-enough : goal.returns-clause-enough
returns-clause-enough c = wants_enough

pub returns-clause-passes : goal.returns-clause-passes
returns-clause-passes c = passes_once_reserved c.delivers_in_time.ensures

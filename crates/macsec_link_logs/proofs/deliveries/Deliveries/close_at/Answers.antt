use Rattle.std.proofs.Common.{rules}
use Rattle.macsec_link_logs.proofs.deliveries.Deliveries.close_at.Goals as goal

pub returns-else-is_live_at : goal.returns-else-is_live_at
returns-else-is_live_at c = search rules

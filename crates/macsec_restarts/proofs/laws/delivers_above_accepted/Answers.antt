use Rattle.macsec_restarts.proofs.OneRun.{delivers_above_accepted}
use Rattle.macsec_restarts.proofs.laws.delivers_above_accepted.Goals as goal

pub returns : goal.returns
returns c = delivers_above_accepted (assumption) (record {
  known = c.refuses_forgotten_keys.ensures.stays;
  gives_up = c.renewing_gives_up_octets.ensures.gives_up;
  stays = c.renewing_gives_up_octets.ensures.stays;
  forever = c.renewing_gives_up_octets.ensures.forever;
})

-- Borrows of a handle's key.
use Rattle.std.specs.Prelude.{Some}
use Rattle.std.specs.Borrow.{Lends, MutBor, Fml}
use Rattle.macsec_jobs.specs.contracts.job_key.JobKey.{the_row as key_row}
use Rattle.macsec_jobs.specs.declared.planned_key.PlannedKey.{PlannedKey}
use Rattle.macsec_c.specs.declared.key.Key.{Key}
use Rattle.macsec_c.specs.contracts.key.Key.{the_row}

abbrev pub with_state : Key → PlannedKey → Key
with_state e k = record e { state = Some k }

-- r borrows the key of the handle e; once the borrow is over, the handle holds the key's last value
abbrev pub LendsKey : MutBor Key → MutBor PlannedKey → Fml
LendsKey e r = Lends the_row key_row e r (with_state e.now)

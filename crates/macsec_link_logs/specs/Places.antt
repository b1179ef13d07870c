-- The logs of deliveries with their spare capacity, and the table of the logs whose SA exists. The contracts of an
-- end's private functions use these definitions.
use Rattle.std.specs.Prelude.{◌≡◌, ◌≤◌, ℕ, zero, suc, Bool, List, [], ◌∷◌, map, option_map, slice_get, unwrap_or, false, if◌then◌else◌, IfSome}
use Rattle.macsec_link_logs.specs.Logs.{DeliveryLog}
use Rattle.macsec_link_logs.specs.Sound.{IsSoundEnd}
use Rattle.macsec_link_logs.specs.Ends.{EndState}

-- a log, and the number of frames for which it has spare capacity
pub record KeptLog : Type 0 where
  pub log : DeliveryLog
  pub spare : ℕ

-- the log without its capacity
abbrev pub log_of : KeptLog → DeliveryLog
log_of k = k.log

-- the logs without their capacity, in order
abbrev pub logs_of : List KeptLog → List DeliveryLog
logs_of logs = map log_of logs

-- the log at this index has capacity for one more frame
abbrev pub HasPlaceAt : List KeptLog → ℕ → Type 0
HasPlaceAt logs place = IfSome (slice_get logs place) (λ k. 1 ≤ k.spare)

-- there is a log at this index, and it passes the test
abbrev pub passes_at : (DeliveryLog → Bool) → List DeliveryLog → ℕ → Bool
passes_at test logs place = unwrap_or (option_map test (slice_get logs place)) false

-- the indices of the logs whose SA exists, in rising order
abbrev pub live_places : List DeliveryLog → List ℕ
live_places [] = []
live_places (log ∷ logs) = if log.live then zero ∷ map suc (live_places logs) else map suc (live_places logs)

-- the end is sound, and the table has the indices of its live logs
pub record IsKeptEnd (e : EndState) (table : List ℕ) : Type 0 where
  pub sound : IsSoundEnd e
  pub live : table ≡ live_places e.delivered

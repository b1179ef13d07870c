-- The octets of the frames in logs, and the reserved capacity of the logs of what is sent.
use Rattle.std.specs.Prelude.{◌≡◌, ◌==◌, ◌<◌, ◌≤◌, ℕ, zero, suc, true, false, List, [], ◌∷◌, map, if◌then◌else◌, IfSome, Option, Some, None}
use Rattle.std.specs.Global.{Vec}
use Rattle.macsec_tx.specs.declared.TxRow.{TxRow}
use Rattle.macsec_tx.specs.Transmit.{tx_row}
use Rattle.macsec_link_logs.specs.Logs.{SentLog, SentLogs}

abbrev pub frames_kept : List (Vec ℕ) → List (List ℕ)
frames_kept frames = map (λ f. f.items) frames

-- a log, and the number of frames for which it has spare capacity
pub record KeptSentLog : Type 0 where
  pub log : SentLog
  pub spare : ℕ

-- the logs, and the number of frames for which a new one has spare capacity
pub record KeptSentLogs : Type 0 where
  pub logs : List KeptSentLog
  pub spare : ℕ

-- the log without its capacity
abbrev pub sent_log_of : KeptSentLog → SentLog
sent_log_of k = k.log

-- the logs without their capacity, in order
abbrev pub sent_logs_of : KeptSentLogs → SentLogs
sent_logs_of kept = map sent_log_of kept.logs

-- the spare capacity in frames under the key with this number: in its log, or in a new one if it has none
abbrev pub spare_under : List KeptSentLog → ℕ → ℕ → ℕ
spare_under [] spare key = spare
spare_under (k ∷ logs) spare key = if k.log.key == key then k.spare else spare_under logs spare key

-- there is capacity for one more frame under the key with this number
abbrev pub HasPlace : KeptSentLogs → ℕ → Type 0
HasPlace kept key = 1 ≤ spare_under kept.logs kept.spare key

-- there is capacity for one more frame under the key of the enabled transmit SA
abbrev pub HavePlaces : List TxRow → KeptSentLogs → Type 0
HavePlaces rows kept = (an : ℕ) → an < 4 → IfSome (tx_row rows an) (λ row. row.on ≡ true → HasPlace kept row.key)

-- the key with this number has no log
abbrev pub HasNone : ℕ → List KeptSentLog → Type 0
HasNone key [] = Unit {0}
HasNone key (k ∷ logs) = ((k.log.key == key) ≡ false) × HasNone key logs

-- the log at this index is the first one of the key with this number
abbrev pub IsPlace : ℕ → List KeptSentLog → ℕ → Type 0
IsPlace key [] place = ⊥
IsPlace key (k ∷ logs) zero = (k.log.key == key) ≡ true
IsPlace key (k ∷ logs) (suc place) = ((k.log.key == key) ≡ false) × IsPlace key logs place

-- the result of a search for that log
abbrev pub IsFound : ℕ → List KeptSentLog → Option ℕ → Type 0
IsFound key logs None = HasNone key logs
IsFound key logs (Some place) = IsPlace key logs place

-- no two logs belong to the same key
abbrev pub AreOfKeys : List KeptSentLog → Type 0
AreOfKeys [] = Unit {0}
AreOfKeys (k ∷ logs) = HasNone k.log.key logs × AreOfKeys logs

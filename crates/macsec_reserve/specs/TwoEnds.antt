-- Two ends that both restart: over all runs of both ends, no IV is used twice under the octets of a key.
use Rattle.std.specs.Prelude.{◌≡◌, ◌≢◌, List, ◌++◌, true, Contains}
use Rattle.std.specs.List.{All, AllPairs}
use Rattle.macsec_suite.specs.KeyRows.{InstalledKey}
use Rattle.macsec_suite.specs.Suites.{is_xpn}
use Rattle.macsec_reserve.specs.Crashes.{IsHistoryOfCrashes}
use Rattle.macsec_reserve.specs.Histories.{AgreeOnKey, IsHistory, Run, closing, sealed_in_all}
use Rattle.macsec_reserve.specs.Unique.{HasOtherIv}

-- keys with the same octets at both ends agree; if packet numbers are extended, the ends' own SSCIs differ
pub record AgreeAtBoth (x y : InstalledKey) : Type 0 where
  pub agree : AgreeOnKey x y
  pub ssci : is_xpn x.suite ≡ true → x.ssci ≢ y.ssci

-- a run of one end and a run of the other: their SCIs differ, and keys with the same octets are as above
pub record AreOfTwoEnds (run other : Run) : Type 0 where
  pub sci : run.config.sci ≢ other.config.sci
  pub keys : (x y : InstalledKey) → Contains (closing run).secy.keys x → Contains (closing other).secy.keys y → x.bytes ≡ y.bytes → AgreeAtBoth x y

-- the histories of two ends, each with its own journal
abbrev pub RepeatsNoIvAtBoth : List Run → List Run → Type 0
RepeatsNoIvAtBoth runs others =
    IsHistory runs → IsHistory others → All (λ run. All (AreOfTwoEnds run) others) runs → AllPairs HasOtherIv (sealed_in_all runs ++ sealed_in_all others)

-- the same for the octets that crashes leave
abbrev pub RepeatsNoIvAtBothAfterCrashes : List Run → List Run → Type 0
RepeatsNoIvAtBothAfterCrashes runs others =
    IsHistoryOfCrashes runs → IsHistoryOfCrashes others → All (λ run. All (AreOfTwoEnds run) others) runs →
    AllPairs HasOtherIv (sealed_in_all runs ++ sealed_in_all others)

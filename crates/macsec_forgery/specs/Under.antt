-- What counts as sealed over restarts: all that both ends have sealed.
use Rattle.std.specs.Prelude.{◌⊎◌, List, map, Contains}
use Rattle.std.specs.List.{All}
use Rattle.macsec_suite.specs.CipherUses.{CipherUse}
use Rattle.macsec_restarts.specs.Kept.{RunWith}
use Rattle.macsec_restarts.specs.RenewingRuns.{sent_by_all}
use Rattle.macsec_restarts.specs.Used.{seal_of}
use Rattle.macsec_forgery.specs.Restarts.{sealed_by_both}

-- what each end has sealed, in any of its runs
abbrev pub SealedByBothHasAll : Type 0
SealedByBothHasAll = (ra rb : List RunWith)
    → All (Contains (sealed_by_both ra rb)) (map seal_of (sent_by_all ra))
    × All (Contains (sealed_by_both ra rb)) (map seal_of (sent_by_all rb))

-- and nothing else
abbrev pub SealedByBothHasNoOther : Type 0
SealedByBothHasNoOther = (ra rb : List RunWith) (u : CipherUse) → Contains (sealed_by_both ra rb) u
    → Contains (map seal_of (sent_by_all ra)) u ⊎ Contains (map seal_of (sent_by_all rb)) u

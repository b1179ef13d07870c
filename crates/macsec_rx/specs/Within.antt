-- Reception within limits: a packet number that step 13 would accept is outside the limits of its SA, or within them
-- (IEEE 802.1AE, 10.6).
use Rattle.std.specs.Prelude.{ℕ, List, [], ◌∷◌, nat_le, if◌then◌else◌, slice_get, Option, Some, None, Result, Ok, Err}
use Rattle.macsec_tag.specs.declared.identifiers.Sci.{Sci}
use Rattle.macsec_rx.specs.declared.RxRow.{RxRow}
use Rattle.macsec_rx.specs.declared.Judged.{Judged}
use Rattle.macsec_rx.specs.declared.channels.Found.{Found}
use Rattle.macsec_rx.specs.declared.within.PnLimits.{PnLimits}
use Rattle.macsec_rx.specs.declared.within.RxPn.{RxPn}
use Rattle.macsec_rx.specs.declared.within.OutsidePn.{OutsidePn}
use Rattle.macsec_rx.specs.declared.within.OutsidePn.TheVariants.{Below, Above}
use Rattle.macsec_rx.specs.Channels.{is_at}
use Rattle.macsec_rx.specs.Judge.{Judgement, accepted_number}

-- the limits of the SA with this SCI and association number: the entry at its index, if there is one
abbrev pub limits_of : List PnLimits → List RxRow → Sci → ℕ → Option PnLimits
limits_of [] rows sci an = None
limits_of (first ∷ limits) [] sci an = None
limits_of (first ∷ limits) (row ∷ rows) sci an = if is_at sci an row then Some first else limits_of limits rows sci an

-- a packet number of an SA
abbrev pub pn_of : RxRow → ℕ → RxPn
pn_of row number = record { sci = row.sci; an = row.an; number = number }

-- on which side of the limits it is, if there are limits and it is outside them
abbrev pub outside_by : Option PnLimits → RxPn → Option OutsidePn
outside_by None at = None
outside_by (Some limits) at =
    if nat_le at.number limits.before then Some (Below at)
    else if nat_le at.number limits.upto then None
    else Some (Above at)

abbrev pub outside_row : List PnLimits → List RxRow → Option ℕ → Option RxRow → Option OutsidePn
outside_row limits rows None row = None
outside_row limits rows (Some number) None = None
outside_row limits rows (Some number) (Some row) = outside_by (limits_of limits rows row.sci row.an) (pn_of row number)

-- of the packet number that is accepted with a judgement
abbrev pub outside : List PnLimits → List RxRow → Judgement → Option OutsidePn
outside limits rows j = outside_row limits rows (accepted_number j) j.row

-- of a packet number of the SA that was found, by the SA's index
abbrev pub outside_found : List PnLimits → Option ℕ → Option Found → Option OutsidePn
outside_found limits None found = None
outside_found limits (Some number) None = None
outside_found limits (Some number) (Some found) = outside_by (slice_get limits found.place) (pn_of found.row number)

abbrev pub outside_in : Result Judged OutsidePn → Option OutsidePn
outside_in (Ok judged) = None
outside_in (Err at) = Some at

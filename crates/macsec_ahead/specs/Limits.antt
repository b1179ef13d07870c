-- The limits on the packet numbers (PNs) that an endpoint accepts if it reserves ahead of receiving.
use Rattle.std.specs.Prelude.{List, [], map, Bool, if◌then◌else◌}
use Rattle.macsec_rx.specs.declared.RxRow.{RxRow}
use Rattle.macsec_rx.specs.declared.within.PnLimits.{PnLimits}
use Rattle.macsec_reserve.specs.declared.reservation.Reservation.{Reservation}
use Rattle.macsec_reserve.specs.Journal.{highest}
use Rattle.macsec_reserve.specs.Keeping.{Keeping}
use Rattle.macsec_reserve.specs.Replay.{row_name}

-- the limits of a receive SA: the last PN that an earlier run reserved, and the last one that this run has reserved
abbrev pub limits_for : Keeping → List Reservation → RxRow → PnLimits
limits_for k taken row = record { before = highest k.before (row_name k.salt k.secy row); upto = highest taken (row_name k.salt k.secy row) }

-- the limits of each SA; without the option there are none
abbrev pub limits_with : Bool → Keeping → List Reservation → List PnLimits
limits_with ahead k taken = if ahead then map (limits_for k taken) k.secy.rx.rows else []

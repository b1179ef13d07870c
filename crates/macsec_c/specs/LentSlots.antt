-- Borrows of a handle's slot.
use Rattle.std.specs.Prelude.{Some}
use Rattle.std.specs.Borrow.{Lends, MutBor, Fml}
use Rattle.macsec_jobs.specs.contracts.slot.Slot.{the_row as slot_row}
use Rattle.macsec_jobs.specs.Slots.{SlotState}
use Rattle.macsec_c.specs.declared.slot.Slot.{Slot}
use Rattle.macsec_c.specs.contracts.slot.Slot.{the_row}

abbrev pub with_state : Slot → SlotState → Slot
with_state e k = record e { state = Some k }

-- r borrows the slot of the handle e; once the borrow is over, the handle holds the slot's last value
abbrev pub LendsSlot : MutBor Slot → MutBor SlotState → Fml
LendsSlot e r = Lends the_row slot_row e r (with_state e.now)

use Rattle.{
  std.proofs.Common.{◌∙◌, ◌+◌, ◌≤◌, ap, arith, refl, length-take-le, Some, None, Ok, Err},
  macsec_pcapng.{proofs.OneTaken.{left_as, one_end, one_fault, one_found, one_refused, taken_as}, specs.Blocks.kept},
}
use Rattle.macsec_pcapng.proofs.taking.take_one.Goals as goal

pub returns-in-Ok-None-clause-taken : goal.returns-in-Ok-None-clause-taken
returns-in-Ok-None-clause-taken g c =
    let none = c.in-Ok-None in
    let octets = g.R.Read.remaining c.take_block.new.source in
    let room = c.take_block.new.room in
    one_end _ octets octets c.args.section.now c.args.section.now room room
    (taken_as _ octets c.order.result c.args.section.now.order room (Ok none.field-0) (Ok None) c.order.ensures (ap Ok none.field-0-is) none.ensures.block)

pub returns-in-Err-clause-taken : goal.returns-in-Err-clause-taken
returns-in-Err-clause-taken g c =
    let octets = g.R.Read.remaining c.take_block.new.source in
    let room = c.take_block.new.room in
    let fault = c.in-Err.fault in
    one_fault _ octets octets c.args.section.now c.args.section.now room room fault
    (taken_as _ octets c.order.result c.args.section.now.order room (Err fault) (Err fault) c.order.ensures refl c.in-Err.ensures.block)

pub returns-in-Ok-Some-take-clause-taken : goal.returns-in-Ok-Some-take-clause-taken
returns-in-Ok-Some-take-clause-taken g c =
    let block = c.in-Ok-Some in
    let head = block.head in
    let room = c.take_block.new.room in
    let some = c.in-Ok-Some-take in
    let octets = g.R.Read.remaining c.take_block.new.source in
    let taken = taken_as _ octets c.order.result c.args.section.now.order room (Ok block.field-0) (Ok (Some head))
    c.order.ensures (ap Ok block.field-0-is) block.ensures.block in
    let left = left_as c.args.section.now c.take.new.self head room c.kept.result (kept head.len) (Ok some.field-0) (Ok (Some some.packet))
    c.kept.ensures.kept (ap Ok some.field-0-is) some.ensures.left in
    one_found _ _ c.args.section.now c.take.new.self room head some.packet (rw some.field-0-is at some.ensures.fits) taken left

pub returns-in-Err-take-clause-taken : goal.returns-in-Err-take-clause-taken
returns-in-Err-take-clause-taken g c =
    let block = c.in-Ok-Some in
    let head = block.head in
    let room = c.take_block.new.room in
    let octets = g.R.Read.remaining c.take_block.new.source in
    let taken = taken_as _ octets c.order.result c.args.section.now.order room (Ok block.field-0) (Ok (Some head))
    c.order.ensures (ap Ok block.field-0-is) block.ensures.block in
    let left = left_as c.args.section.now c.take.new.self head room c.kept.result (kept head.len) (Err c.in-Err-take.fault) (Err c.in-Err-take.fault)
    c.kept.ensures.kept refl c.in-Err-take.ensures.left in
    one_refused _ octets octets c.args.section.now c.take.new.self room room head c.in-Err-take.fault taken left

-- The proofs from here on are here for speed: a search would compute the length of the room.
pub take_block-requires : goal.take_block-requires
take_block-requires g c = c.requires

pub slice_bounds-take-end : goal.slice_bounds-take-end
slice_bounds-take-end g c = omega arith

pub take-requires-clause-front : goal.take-requires-clause-front
take-requires-clause-front g c = length-take-le c.kept.result c.take_block.new.room (omega arith) ∙ c.kept.ensures.kept

pub take-requires-clause-least : goal.take-requires-clause-least
take-requires-clause-least g c = rw c.in-Ok-Some.field-0-is at c.in-Ok-Some.ensures.least

pub returns-in-Ok-Some-take-clause-fits : goal.returns-in-Ok-Some-take-clause-fits
returns-in-Ok-Some-take-clause-fits g c =
    let some = c.in-Ok-Some-take in
    let fits : some.packet.start + some.packet.captured ≤ kept c.in-Ok-Some.head.len = rw some.field-0-is at some.ensures.fits in
    omega (arith, fits, c.kept.ensures.kept, c.kept.ensures.fits)

use Rattle.{
  std.proofs.Common.{◌≡◌, arith, length, length-take-le, take_at},
  macsec_pcapng.proofs.TakenBlocks.section_taken,
}
use Rattle.macsec_pcapng.proofs.blocks.take_section.Goals as goal

pub returns-clause-block : goal.returns-clause-block
returns-clause-block g c =
    let four : length c.fetch.new.room ≡ 4 = omega (arith, c.fetch.auto.room, length-take-le 4 c.args.room.now (omega (arith, c.requires.room))) in
    section_taken c.args.head.now c.fetch.new.room _ _ _ _ _ c.in-Some.order c.total_length-total.result c.take_known.result four
    (take_at c.fetch.new.room _ 4 four) c.in-Some.ensures c.total_length-total.ensures c.in_ok-fetch.ensures c.take_known.ensures.block

-- The proofs from here on are here for speed: a search would compute the length of the room.
pub slice_bounds-fetch-end : goal.slice_bounds-fetch-end
slice_bounds-fetch-end g c = omega arith

pub total_length-total-requires : goal.total_length-total-requires
total_length-total-requires g c = c.requires.head

pub take_known-requires-clause-known : goal.take_known-requires-clause-known
take_known-requires-clause-known g c = omega arith

pub take_known-requires-clause-few : goal.take_known-requires-clause-few
take_known-requires-clause-few g c = omega arith

pub take_known-requires-clause-room : goal.take_known-requires-clause-room
take_known-requires-clause-room g c = omega (arith, c.fetch.auto.room, c.requires.room)

pub returns-clause-least : goal.returns-clause-least
returns-clause-least g c = c.take_known.ensures.least

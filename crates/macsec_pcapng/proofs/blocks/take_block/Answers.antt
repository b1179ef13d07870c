use Rattle.{
  std.proofs.Common.{◌≡◌, ◌∙◌, ◌≤◌, arith, sym, false, true},
  macsec_pcapng.{proofs.TakenBlocks.{takes_other, takes_section}, specs.Blocks.is_section},
}
use Rattle.macsec_pcapng.proofs.blocks.take_block.Goals as goal

pub returns-then-is_section-clause-block : goal.returns-then-is_section-clause-block
returns-then-is_section-clause-block g c =
    let whole : 8 ≤ c.in_ok-count.count = omega arith in
    let is : is_section c.fill.new.room ≡ true = sym c.is_section.ensures ∙ c.if-is_section.true in
    takes_section c.args.order _ _ _ c.fill.new.room _ c.in_ok-count.count c.take_section.result c.fill.auto.room whole c.in_ok-count.ensures is c.take_section.ensures.block

pub returns-clause-block : goal.returns-clause-block
returns-clause-block g c =
    let whole : 8 ≤ c.in_ok-count.count = omega arith in
    let is : is_section c.fill.new.room ≡ false = sym c.is_section.ensures ∙ c.if-is_section.false in
    takes_other c.args.order _ _ _ c.fill.new.room _ c.in_ok-count.count c.u32.result c.total_length-total.result c.take_known.result
    c.fill.auto.room whole c.in_ok-count.ensures is c.u32.ensures c.total_length-total.ensures c.take_known.ensures.block

-- The proofs from here on are here for speed: a search would compute the length of the room.
pub take_section-requires-clause-head : goal.take_section-requires-clause-head
take_section-requires-clause-head g c = omega arith

pub take_section-requires-clause-room : goal.take_section-requires-clause-room
take_section-requires-clause-room g c = c.requires

pub returns-then-is_section-clause-least : goal.returns-then-is_section-clause-least
returns-then-is_section-clause-least g c = c.take_section.ensures.least

pub take_known-requires-clause-few : goal.take_known-requires-clause-few
take_known-requires-clause-few g c = omega arith

pub take_known-requires-clause-room : goal.take_known-requires-clause-room
take_known-requires-clause-room g c = c.requires

pub returns-clause-least : goal.returns-clause-least
returns-clause-least g c = c.take_known.ensures.least

use Rattle.{
  std.proofs.Common.{◌≡◌, ◌≤◌, ◌+◌, ◌∙◌, ap, arith, length, refl, take_at},
  macsec_pcap.specs.Answers.shown,
  macsec_pcapng.{
    proofs.Ahead.{steps_end, steps_ended, steps_failed, steps_fault, steps_full, steps_record},
    specs.Packets.packet_record,
  },
}
use Rattle.macsec_pcapng.proofs.reader.PcapngReader.next.Goals as goal

pub returns-in-Ended : goal.returns-in-Ended
returns-in-Ended g c =
    let s = c.self.inside in
    let steps = steps_ended c.args.self.now s.course s.blocks s.places s.section (g.R.Read.remaining s.source) c.in-Ended.is c.self.view_is in
    ((refl, λ x. tt, steps.0), record { after = tt; answer = steps.1 })

pub returns-in-Failed : goal.returns-in-Failed
returns-in-Failed g c =
    let s = c.self.inside in
    let steps = steps_failed c.args.self.now s.course s.blocks s.places s.section (g.R.Read.remaining s.source) c.in-Failed.fault c.in-Failed.is c.self.view_is in
    ((refl, λ x. tt, steps.0), record { after = tt; answer = steps.1 })

pub returns-in-Err : goal.returns-in-Err
returns-in-Err g c =
    let s = c.self.inside in
    let octets = g.R.Read.remaining in
    let new = c.take_packet.new in
    let steps = steps_fault c.args.self.now s.course s.blocks new.blocks s.places s.section new.section (octets s.source) (octets new.source)
    new.room c.in-Err.fault c.in-Going.is c.self.view_is c.in-Err.ensures.taken in
    ((refl, λ x. tt, steps.0), record { after = tt; answer = steps.1 })

pub returns-in-Ok-None : goal.returns-in-Ok-None
returns-in-Ok-None g c =
    let s = c.self.inside in
    let none = c.in-Ok-None in
    let octets = g.R.Read.remaining in
    let new = c.take_packet.new in
    let steps = steps_end c.args.self.now s.course s.blocks new.blocks s.places s.section new.section (octets s.source) (octets new.source)
    new.room c.in-Going.is c.self.view_is (rw none.field-0-is at none.ensures.taken) in
    ((refl, λ x. tt, steps.0), record { after = tt; answer = steps.1 })

pub take_packet-requires : goal.take_packet-requires
take_packet-requires g c = omega arith

pub returns-then-self-eq0 : goal.returns-then-self-eq0
returns-then-self-eq0 g c =
    let s = c.self.inside in
    let some = c.in-Ok-Some in
    let octets = g.R.Read.remaining in
    let new = c.take_packet.new in
    let steps = steps_full c.args.self.now s.course s.blocks new.blocks s.places s.section new.section (octets s.source) (octets new.source)
    new.room some.packet c.in-Going.is c.self.view_is c.if-self-eq0.true (rw some.field-0-is at some.ensures.taken) in
    ((refl, λ x. tt, steps.0), record { after = tt; answer = steps.1 })

pub returns-else-self-eq0 : goal.returns-else-self-eq0
returns-else-self-eq0 g c =
    let s = c.self.inside in
    let some = c.in-Ok-Some in
    let octets = g.R.Read.remaining in
    let new = c.take_packet.new in
    let place : 1 ≤ s.places = omega (arith, c.if-self-eq0.false) in
    let len : length new.room ≡ s.room.len = omega arith in
    let same = c.record.ensures ∙ ap (packet_record some.packet) (c.as_slice.ensures.value ∙ take_at new.room _ s.room.len len) in
    let steps = steps_record c.args.self.now s.course s.blocks new.blocks s.places s.section new.section (octets s.source) (octets new.source)
    new.room some.packet (shown c.record.result) c.in-Going.is c.self.view_is place same (rw some.field-0-is at some.ensures.taken) in
    ((refl, λ x. tt, steps.0), record { after = tt; answer = steps.1 })

-- The proofs from here on are here for speed: a search would compute the length of the room.
pub invariant_of-self : goal.invariant_of-self
invariant_of-self g c = omega arith

pub overflow_sub-self : goal.overflow_sub-self
overflow_sub-self g c = omega arith

pub record-requires : goal.record-requires
record-requires g c =
    let some = c.in-Ok-Some in
    let fits : some.packet.start + some.packet.captured ≤ 262164 = rw some.field-0-is at some.ensures.fits in
    omega (arith, fits)

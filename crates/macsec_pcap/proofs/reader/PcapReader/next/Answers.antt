use Rattle.std.proofs.Common.{◌≡◌, ◌∙◌, ap, arith, length, refl, take_at}
use Rattle.macsec_pcap.{
  proofs.Ahead.{steps_end, steps_ended, steps_failed, steps_fault, steps_record},
  specs.Answers.record_in,
}
use Rattle.macsec_pcap.proofs.reader.PcapReader.next.Goals as goal

pub returns-in-Ok-Some : goal.returns-in-Ok-Some
returns-in-Ok-Some g c =
    let s = c.self.inside in
    let some = c.in-Ok-Some in
    let octets = g.R.Read.remaining in
    let len : length c.take_record.new.room ≡ s.room.len = omega arith in
    let same = c.record.ensures ∙ ap (record_in some.head) (c.as_slice.ensures.value ∙ take_at c.take_record.new.room _ s.room.len len) in
    let steps = steps_record s.form s.places (octets s.source) (octets c.take_record.new.source) c.take_record.new.room some.head
    c.in-Going.is c.self.view_is (rw some.field-0-is at some.ensures.place) same (rw some.field-0-is at some.ensures.taken) in
    ((refl, λ x. tt, steps.0), record { after = tt; answer = steps.1 })

pub returns-in-Ok-None : goal.returns-in-Ok-None
returns-in-Ok-None g c =
    let s = c.self.inside in
    let none = c.in-Ok-None in
    let octets = g.R.Read.remaining in
    let steps = steps_end s.form s.places (octets s.source) (octets c.take_record.new.source) c.take_record.new.room
    c.in-Going.is c.self.view_is (rw none.field-0-is at none.ensures.taken) in
    ((refl, λ x. tt, steps.0), record { after = tt; answer = steps.1 })

pub returns-in-Err : goal.returns-in-Err
returns-in-Err g c =
    let s = c.self.inside in
    let octets = g.R.Read.remaining in
    let steps = steps_fault s.form s.places (octets s.source) (octets c.take_record.new.source) c.take_record.new.room c.in-Err.fault
    c.in-Going.is c.self.view_is c.in-Err.ensures.taken in
    ((refl, λ x. tt, steps.0), record { after = tt; answer = steps.1 })

pub returns-in-Ended : goal.returns-in-Ended
returns-in-Ended g c =
    let s = c.self.inside in
    let steps = steps_ended s.form s.places (g.R.Read.remaining s.source) c.in-Ended.is c.self.view_is in
    ((refl, λ x. tt, steps.0), record { after = tt; answer = steps.1 })

pub returns-in-Failed : goal.returns-in-Failed
returns-in-Failed g c =
    let s = c.self.inside in
    let steps = steps_failed s.form s.places (g.R.Read.remaining s.source) c.in-Failed.is c.self.view_is in
    ((refl, λ x. tt, steps.0), record { after = tt; answer = steps.1 })

pub take_record-requires : goal.take_record-requires
take_record-requires g c = omega arith

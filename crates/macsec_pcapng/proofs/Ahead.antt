-- What a reader has still to return, before and after each block and each call of `next`.
use Rattle.std.proofs.Common.{◌≡◌, ℕ, zero, suc, ◌-◌, ◌≤◌, ◌<◌, List, refl, sym, ap, subst, ◌∙◌, arith, Option, Some}
use Rattle.std.proofs.Common.{None, IfSome, Result, Ok, Err}
use Rattle.macsec_pcap.specs.{
  Answers.UnlessRead,
  Reading.{holds, Answers, IsAfter, IsAhead, Reading, ahead_after, first_of, past_first},
  Records.CaptureRecord,
  declared.{fault.PcapFault.{PcapFault, TheVariants.{Read, RecordCount}}, form.Resolution.TheVariants.Nano},
}
use Rattle.macsec_pcapng.specs.{
  Answers.{TakesOne, TakesPacket},
  Files.{Takes, content_from, capture_of, ended, taken_at},
  Packets.packet_record,
  Reading.{ahead_in, content_ahead},
  Section.Section,
  declared.{
    packets.Packet.Packet,
    reader.Course.{Course, TheVariants.{Going, Ended, Failed}},
    taking.Taken.TheVariants.{End, Found, Skipped},
  },
}

-- ---- reading a block

-- if the octets are known, their content is the content of later octets, with a later section and count of blocks
abbrev pub Goes : ℕ → Section → Option (List ℕ) → ℕ → Section → Option (List ℕ) → Type 0
Goes blocks section old left next new = IfSome old (λ octets. (rest : List ℕ) × (new ≡ Some rest)
    × ((places : ℕ) → capture_of blocks section places octets ≡ capture_of left next places rest))

-- the content of octets, from their first block
begins : (left : ℕ) (section : Section) (octets : List ℕ) (places : ℕ) → 0 < left →
    capture_of left section places octets ≡ content_from (taken_at section octets) places (λ next n rest. capture_of (left - 1) next n rest)
unfolding capture_of
begins zero section octets places some = absurd (omega (arith, some))
begins (suc left) section octets places some =
    let same : suc left - 1 ≡ left = omega arith in
    ap (λ l. content_from (taken_at section octets) places (λ next n rest. capture_of l next n rest)) (sym same)

-- one more block was read, and it had no packet
pub goes_on : (blocks left : ℕ) (section next last : Section) (old mid new : Option (List ℕ)) (room : List ℕ) → 0 < left → Goes blocks section old left next mid →
    IfSome mid (λ octets. TakesOne next octets last new room (Ok Skipped)) → Goes blocks section old (left - 1) last new
goes_on blocks left section next last None mid new room some goes taken = tt
goes_on blocks left section next last (Some octets) mid new room some goes taken =
    let rest = goes.0 in
    let here : TakesOne next rest last new room (Ok Skipped) = subst (λ m. IfSome m (λ xs. TakesOne next xs last new room (Ok Skipped))) goes.1 taken in (
      here.0,
      here.2,
      λ places. goes.2 places ∙ begins left next rest places some
          ∙ ap (λ t. content_from t places (λ n k xs. capture_of (left - 1) n k xs)) here.1,
    )

-- the file ended
pub goes_end : (blocks left after : ℕ) (section next last : Section) (old mid new : Option (List ℕ)) (room : List ℕ) → 0 < left → Goes blocks section old left next mid →
    IfSome mid (λ octets. TakesOne next octets last new room (Ok End)) → IfSome old (λ octets. TakesPacket blocks section octets after last new room (Ok None))
goes_end blocks left after section next last None mid new room some goes taken = tt
goes_end blocks left after section next last (Some octets) mid new room some goes taken =
    let rest = goes.0 in
    let here : TakesOne next rest last new room (Ok End) = subst (λ m. IfSome m (λ xs. TakesOne next xs last new room (Ok End))) goes.1 taken in
    λ places. goes.2 places ∙ begins left next rest places some
    ∙ ap (λ t. content_from t places (λ n k xs. capture_of (left - 1) n k xs)) here

-- a packet was found
pub goes_found : (blocks left : ℕ) (section next last : Section) (old mid new : Option (List ℕ)) (room : List ℕ) (packet : Packet) → 0 < left →
    Goes blocks section old left next mid →
    IfSome mid (λ octets. TakesOne next octets last new room (Ok (Found packet))) →
    IfSome old (λ octets. TakesPacket blocks section octets (left - 1) last new room (Ok (Some packet)))
goes_found blocks left section next last None mid new room packet some goes taken = tt
goes_found blocks left section next last (Some octets) mid new room packet some goes taken =
    let rest = goes.0 in
    let here : TakesOne next rest last new room (Ok (Found packet)) = subst (λ m. IfSome m (λ xs. TakesOne next xs last new room (Ok (Found packet)))) goes.1 taken in (
      here.0,
      here.2,
      λ places. goes.2 places ∙ begins left next rest places some
          ∙ ap (λ t. content_from t places (λ n k xs. capture_of (left - 1) n k xs)) here.1,
    )

-- a fault of the format, or of a read
told_fault : (blocks after : ℕ) (section last : Section) (octets room : List ℕ) (new : Option (List ℕ)) (meant : Takes) (fault : PcapFault) →
    UnlessRead meant (Err fault) → ((places : ℕ) → meant ≡ Err fault → capture_of blocks section places octets ≡ ended (Some fault)) →
    TakesPacket blocks section octets after last new room (Err fault)
told_fault blocks after section last octets room new meant Read h each = tt
told_fault blocks after section last octets room new meant fault h each = λ places. each places (sym h)

pub goes_fault : (blocks left after : ℕ) (section next last : Section) (old mid new : Option (List ℕ)) (room : List ℕ) (fault : PcapFault) → 0 < left →
    Goes blocks section old left next mid →
    IfSome mid (λ octets. TakesOne next octets last new room (Err fault)) → IfSome old (λ octets. TakesPacket blocks section octets after last new room (Err fault))
goes_fault blocks left after section next last None mid new room fault some goes taken = tt
goes_fault blocks left after section next last (Some octets) mid new room fault some goes taken =
    let rest = goes.0 in
    let here : UnlessRead (taken_at next rest) (Err fault) = subst (λ m. IfSome m (λ xs. UnlessRead (taken_at next xs) (Err fault))) goes.1 taken in
    told_fault blocks after section last octets room new (taken_at next rest) fault here
    (λ places same. goes.2 places ∙ begins left next rest places some ∙ ap (λ t. content_from t places (λ n k xs. capture_of (left - 1) n k xs)) same)

over : (left : ℕ) (next : Section) (places : ℕ) (rest : List ℕ) → left ≡ 0 → capture_of left next places rest ≡ ended (Some RecordCount)
unfolding capture_of
over zero next places rest none = refl
over (suc n) next places rest none = absurd (omega (arith, none))

-- the limit of blocks is reached
pub goes_over : (blocks left after : ℕ) (section next last : Section) (old mid new : Option (List ℕ)) (room : List ℕ) → left ≡ 0 → Goes blocks section old left next mid →
    IfSome old (λ octets. TakesPacket blocks section octets after last new room (Err RecordCount))
goes_over blocks left after section next last None mid new room none goes = tt
goes_over blocks left after section next last (Some octets) mid new room none goes = λ places. goes.2 places ∙ over left next places goes.0 none

-- ---- the calls of `next`

-- a reader in this state
abbrev pub standing : Course → ℕ → Section → ℕ → Option (List ℕ) → Reading
standing course blocks section places octets = record { resolution = Nano; places = places; ahead = ahead_in course blocks section places octets }

-- a call of `next` on a reader
abbrev pub Steps : Reading → Result (Option CaptureRecord) PcapFault → Reading → Type 0
Steps now answer new = IsAfter now answer new × Answers now.ahead answer

-- the reader was between two blocks
going : (now : Reading) (course : Course) (blocks : ℕ) (section : Section) (places : ℕ) (octets : Option (List ℕ)) → course ≡ Going →
    standing course blocks section places octets ≡ now →
    standing Going blocks section places octets ≡ now
going now course blocks section places octets is same = ap (λ c. standing c blocks section places octets) (sym is) ∙ same

fault_answers : (blocks left places : ℕ) (section last : Section) (old new : Option (List ℕ)) (room : List ℕ) (fault : PcapFault) →
    IfSome old (λ octets. TakesPacket blocks section octets left last new room (Err fault)) → Answers (content_ahead blocks section places old) (Err fault)
fault_answers blocks left places section last None new room fault taken = tt
fault_answers blocks left places section last (Some octets) new room Read taken = tt
fault_answers blocks left places section last (Some octets) new room fault taken = sym (ap first_of (taken places))

end_answers : (blocks left places : ℕ) (section last : Section) (old new : Option (List ℕ)) (room : List ℕ) →
    IfSome old (λ octets. TakesPacket blocks section octets left last new room (Ok None)) → Answers (content_ahead blocks section places old) (Ok None)
end_answers blocks left places section last None new room taken = tt
end_answers blocks left places section last (Some octets) new room taken = sym (ap first_of (taken places))

-- the limit of records is reached
full_answers : (blocks left places : ℕ) (section last : Section) (old new : Option (List ℕ)) (room : List ℕ) (packet : Packet) → places ≡ 0 →
    IfSome old (λ octets. TakesPacket blocks section octets left last new room (Ok (Some packet))) → Answers (content_ahead blocks section places old) (Err RecordCount)
full_answers blocks left places section last None new room packet none taken = tt
full_answers blocks left zero section last (Some octets) new room packet none taken = sym (ap first_of (taken.2 zero))
full_answers blocks left (suc places) section last (Some octets) new room packet none taken = absurd (omega (arith, none))

record_answers : (blocks left places : ℕ) (section last : Section) (old new : Option (List ℕ)) (room : List ℕ) (packet : Packet) (first : CaptureRecord) →
    first ≡ packet_record packet room → 1 ≤ places →
    IfSome old (λ octets. TakesPacket blocks section octets left last new room (Ok (Some packet))) → Answers (content_ahead blocks section places old) (Ok (Some first))
record_answers blocks left places section last None new room packet first same place taken = tt
record_answers blocks left zero section last (Some octets) new room packet first same place taken = absurd (omega (arith, place))
record_answers blocks left (suc places) section last (Some octets) new room packet first same place taken =
    ap (λ r. Ok (Some r)) same ∙ sym (ap first_of (taken.2 (suc places)))

record_ahead : (blocks left places : ℕ) (section last : Section) (old new : Option (List ℕ)) (room : List ℕ) (packet : Packet) (first : CaptureRecord) → 1 ≤ places →
    IfSome old (λ octets. TakesPacket blocks section octets left last new room (Ok (Some packet))) →
    IsAhead (ahead_after (content_ahead blocks section places old) (Ok (Some first))) (content_ahead left last (places - 1) new)
record_ahead blocks left places section last None new room packet first place taken = tt
record_ahead blocks left zero section last (Some octets) new room packet first place taken = absurd (omega (arith, place))
record_ahead blocks left (suc places) section last (Some octets) new room packet first place taken =
    let less : suc places - 1 ≡ places = omega arith in
    ap (content_ahead left last (suc places - 1)) taken.1 ∙ ap (λ n. holds (capture_of left last n taken.0)) less
    ∙ ap (λ capture. past_first (holds capture)) (sym (taken.2 (suc places)))

pub steps_record : (now : Reading) (course : Course) (blocks left places : ℕ) (section last : Section) (old new : Option (List ℕ)) (room : List ℕ)
    (packet : Packet) (first : CaptureRecord) →
    course ≡ Going → standing course blocks section places old ≡ now → 1 ≤ places → first ≡ packet_record packet room →
    IfSome old (λ octets. TakesPacket blocks section octets left last new room (Ok (Some packet))) →
    Steps now (Ok (Some first)) (standing course left last (places - 1) new)
steps_record now course blocks left places section last old new room packet first is same place shown taken =
    subst (λ c. Steps now (Ok (Some first)) (standing c left last (places - 1) new)) (sym is)
    (subst (λ r. Steps r (Ok (Some first)) (standing Going left last (places - 1) new)) (going now course blocks section places old is same) (
      record { resolution = refl; places = omega (arith, place); ahead = record_ahead blocks left places section last old new room packet first place taken },
      record_answers blocks left places section last old new room packet first shown place taken,
    ))

pub steps_end : (now : Reading) (course : Course) (blocks left places : ℕ) (section last : Section) (old new : Option (List ℕ)) (room : List ℕ) →
    course ≡ Going → standing course blocks section places old ≡ now →
    IfSome old (λ octets. TakesPacket blocks section octets left last new room (Ok None)) → Steps now (Ok None) (standing Ended left last places new)
steps_end now course blocks left places section last old new room is same taken =
    subst (λ r. Steps r (Ok None) (standing Ended left last places new)) (going now course blocks section places old is same)
    (record { resolution = refl; places = refl; ahead = refl }, end_answers blocks left places section last old new room taken)

pub steps_full : (now : Reading) (course : Course) (blocks left places : ℕ) (section last : Section) (old new : Option (List ℕ)) (room : List ℕ) (packet : Packet) →
    course ≡ Going → standing course blocks section places old ≡ now → places ≡ 0 →
    IfSome old (λ octets. TakesPacket blocks section octets left last new room (Ok (Some packet))) →
    Steps now (Err RecordCount) (standing (Failed RecordCount) left last places new)
steps_full now course blocks left places section last old new room packet is same none taken =
    subst (λ r. Steps r (Err RecordCount) (standing (Failed RecordCount) left last places new)) (going now course blocks section places old is same)
    (record { resolution = refl; places = refl; ahead = refl }, full_answers blocks left places section last old new room packet none taken)

pub steps_fault : (now : Reading) (course : Course) (blocks left places : ℕ) (section last : Section) (old new : Option (List ℕ)) (room : List ℕ) (fault : PcapFault) →
    course ≡ Going → standing course blocks section places old ≡ now →
    IfSome old (λ octets. TakesPacket blocks section octets left last new room (Err fault)) → Steps now (Err fault) (standing (Failed fault) left last places new)
steps_fault now course blocks left places section last old new room fault is same taken =
    subst (λ r. Steps r (Err fault) (standing (Failed fault) left last places new)) (going now course blocks section places old is same)
    (record { resolution = refl; places = refl; ahead = refl }, fault_answers blocks left places section last old new room fault taken)

-- a call on a reader that has returned `None` or a fault
pub steps_ended : (now : Reading) (course : Course) (blocks places : ℕ) (section : Section) (octets : Option (List ℕ)) →
    course ≡ Ended → standing course blocks section places octets ≡ now → Steps now (Ok None) (standing course blocks section places octets)
steps_ended now course blocks places section octets is same =
    subst (λ r. Steps r (Ok None) (standing course blocks section places octets)) same
    (subst (λ c. Steps (standing c blocks section places octets) (Ok None) (standing c blocks section places octets)) (sym is)
    (record { resolution = refl; places = refl; ahead = refl }, refl))

pub steps_failed : (now : Reading) (course : Course) (blocks places : ℕ) (section : Section) (octets : Option (List ℕ)) (fault : PcapFault) →
    course ≡ Failed fault → standing course blocks section places octets ≡ now → Steps now (Err fault) (standing course blocks section places octets)
steps_failed now course blocks places section octets fault is same =
    subst (λ r. Steps r (Err fault) (standing course blocks section places octets)) same
    (subst (λ c. Steps (standing c blocks section places octets) (Err fault) (standing c blocks section places octets)) (sym is)
    (record { resolution = refl; places = refl; ahead = refl }, refl))

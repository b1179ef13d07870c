-- What is ahead of a reader before and after its calls.
use Rattle.std.proofs.Common.{◌≡◌, ℕ, zero, suc, ◌-◌, ◌≤◌, List, [], drop, refl, sym, ap, subst, ◌∙◌, arith, Option}
use Rattle.std.proofs.Common.{Some, None, IfSome, Result, Ok, Err}
use Rattle.macsec_pcap.specs.{
  Answers.{ReadsHeader, TakesRecord, UnlessRead, record_in},
  Captures.{Capture, begun_by, file_in, file_of, followed_by, record_within, records_of},
  Limits.max_records,
  Reading.{holds, Answers, IsAfter, IsAhead, Opens, Reading, ahead_after, ahead_of, first_of, past_first, told},
  Records.CaptureRecord,
  declared.{
    fault.PcapFault.{PcapFault, TheVariants.Read},
    form.{Form.Form, Order.Order},
    reader.Course.{Course, TheVariants.{Going, Ended, Failed}},
    records.Head.Head,
  },
}

-- the contents of octets, given what is at their beginning
records_of-begun : (order : Order) (places : ℕ) (octets : List ℕ) →
    (more : List ℕ → Capture) × (records_of order places octets ≡ begun_by (record_within order places octets) more) × ((n : ℕ) → places ≡ suc n → more ≡ records_of order n)
unfolding records_of
records_of-begun order zero octets = (λ rest. record { records = []; fault = None }, refl, λ n same. absurd (omega (arith, same)))
records_of-begun order (suc places) octets = (λ rest. records_of order places rest, refl, λ n same. ap (records_of order) (omega (arith, same)))

-- the first item of the contents
abbrev shows : Result (Option (CaptureRecord × List ℕ)) PcapFault → Result (Option CaptureRecord) PcapFault
shows (Err fault) = Err fault
shows (Ok None) = Ok None
shows (Ok (Some (first, rest))) = Ok (Some first)

first_of-begun : (begins : Result (Option (CaptureRecord × List ℕ)) PcapFault) (more : List ℕ → Capture) → first_of (begun_by begins more) ≡ shows begins
first_of-begun (Err fault) more = refl
first_of-begun (Ok None) more = refl
first_of-begun (Ok (Some (first, rest))) more = refl

first_of-records_of : (order : Order) (places : ℕ) (octets : List ℕ) → first_of (records_of order places octets) ≡ shows (record_within order places octets)
first_of-records_of order places octets =
    let begun = records_of-begun order places octets in
    ap first_of begun.1 ∙ first_of-begun (record_within order places octets) begun.0

unless_read-shown : (begins : Result (Option (CaptureRecord × List ℕ)) PcapFault) (fault : PcapFault) → UnlessRead begins (Err fault) → UnlessRead (shows begins) (Err fault)
unless_read-shown begins Read h = tt
unless_read-shown begins fault h = ap shows h

-- a fault is returned
pub answers_fault : (order : Order) (places : ℕ) (old new : Option (List ℕ)) (room : List ℕ) (fault : PcapFault) →
    IfSome old (λ octets. TakesRecord order places octets new room (Err fault)) → Answers (told order places old) (Err fault)
answers_fault order places None new room fault taken = tt
answers_fault order places (Some octets) new room fault taken =
    subst (λ meant. UnlessRead meant (Err fault)) (sym (first_of-records_of order places octets))
    (unless_read-shown (record_within order places octets) fault taken)

-- the end of the file is returned
pub answers_end : (order : Order) (places : ℕ) (old new : Option (List ℕ)) (room : List ℕ) →
    IfSome old (λ octets. TakesRecord order places octets new room (Ok None)) → Answers (told order places old) (Ok None)
answers_end order places None new room taken = tt
answers_end order places (Some octets) new room taken = sym (first_of-records_of order places octets ∙ ap shows taken)

-- a record is returned
pub answers_record : (order : Order) (places : ℕ) (old new : Option (List ℕ)) (room : List ℕ) (numbers : Head) (first : CaptureRecord) → first ≡ record_in numbers room →
    IfSome old (λ octets. TakesRecord order places octets new room (Ok (Some numbers))) → Answers (told order places old) (Ok (Some first))
answers_record order places None new room numbers first same taken = tt
answers_record order places (Some octets) new room numbers first same taken =
    ap (λ r. Ok (Some r)) same ∙ sym (first_of-records_of order places octets ∙ ap shows taken.1)

-- what is ahead after a record
pub ahead_of_rest : (order : Order) (places : ℕ) (old new : Option (List ℕ)) (room : List ℕ) (numbers : Head) (first : CaptureRecord) → 1 ≤ places →
    IfSome old (λ octets. TakesRecord order places octets new room (Ok (Some numbers))) →
    IsAhead (ahead_after (told order places old) (Ok (Some first))) (told order (places - 1) new)
ahead_of_rest order places None new room numbers first place taken = tt
ahead_of_rest order zero (Some octets) new room numbers first place taken = absurd (omega (arith, place))
ahead_of_rest order (suc places) (Some octets) new room numbers first place taken =
    let begun = records_of-begun order (suc places) octets in
    let whole : records_of order (suc places) octets ≡ followed_by (record_in numbers room) (records_of order places taken.0) =
    begun.1 ∙ ap (λ w. begun_by w begun.0) taken.1 ∙ ap (λ more. followed_by (record_in numbers room) (more taken.0)) (begun.2 places refl) in
    let left : suc places - 1 ≡ places = omega arith in
    ap (told order (suc places - 1)) taken.2 ∙ ap (λ n. holds (records_of order n taken.0)) left
    ∙ ap (λ capture. past_first (holds capture)) (sym whole)

-- a reader at the first record
pub opens : (old new : Option (List ℕ)) (form : Form) → IfSome old (λ file. ReadsHeader file new (Ok form)) →
    IfSome old (λ file. Opens (file_of file) (Ok (record { resolution = form.resolution; places = max_records; ahead = told form.order max_records new })))
opens None new form read = tt
opens (Some file) new form read = (
  record { resolution = form.resolution; capture = records_of form.order max_records (drop 24 file) },
  ap (λ header. file_in header file) read.0,
  ap (λ octets. record { resolution = form.resolution; places = max_records; ahead = told form.order max_records octets }) read.1,
)

-- a reader of this form in this state
abbrev pub standing : Form → Course → ℕ → Option (List ℕ) → Reading
standing form course places octets = record { resolution = form.resolution; places = places; ahead = ahead_of course form.order places octets }

-- a call of `next`: its answer, and the reader after it
abbrev pub Steps : Reading → Result (Option CaptureRecord) PcapFault → Reading → Type 0
Steps now answer new = IsAfter now answer new × Answers now.ahead answer

-- a call on a reader that has returned neither the end nor a fault
pub steps_record : {now : Reading} (form : Form) {course : Course} (places : ℕ) (old new : Option (List ℕ)) (room : List ℕ) (numbers : Head) {first : CaptureRecord} →
    course ≡ Going → standing form course places old ≡ now → 1 ≤ places → first ≡ record_in numbers room →
    IfSome old (λ octets. TakesRecord form.order places octets new room (Ok (Some numbers))) →
    Steps now (Ok (Some first)) (standing form course (places - 1) new)
steps_record form places old new room numbers {first} is same place shown taken =
    rw (← same, is) (
      record { resolution = refl; places = omega (arith, place); ahead = ahead_of_rest form.order places old new room numbers first place taken },
      answers_record form.order places old new room numbers first shown taken,
    )

pub steps_end : {now : Reading} (form : Form) {course : Course} (places : ℕ) (old new : Option (List ℕ)) (room : List ℕ) →
    course ≡ Going → standing form course places old ≡ now →
    IfSome old (λ octets. TakesRecord form.order places octets new room (Ok None)) → Steps now (Ok None) (standing form Ended places new)
steps_end form places old new room is same taken =
    rw (← same, is) (record { resolution = refl; places = refl; ahead = refl }, answers_end form.order places old new room taken)

pub steps_fault : {now : Reading} (form : Form) {course : Course} (places : ℕ) (old new : Option (List ℕ)) (room : List ℕ) (fault : PcapFault) →
    course ≡ Going → standing form course places old ≡ now →
    IfSome old (λ octets. TakesRecord form.order places octets new room (Err fault)) → Steps now (Err fault) (standing form (Failed fault) places new)
steps_fault form places old new room fault is same taken =
    rw (← same, is) (record { resolution = refl; places = refl; ahead = refl }, answers_fault form.order places old new room fault taken)

-- a call on a reader that has returned the end or a fault
pub steps_ended : {now : Reading} (form : Form) {course : Course} (places : ℕ) (octets : Option (List ℕ)) →
    course ≡ Ended → standing form course places octets ≡ now → Steps now (Ok None) (standing form course places octets)
steps_ended form places octets is same = rw (← same, is) (record { resolution = refl; places = refl; ahead = refl }, refl)

pub steps_failed : {now : Reading} (form : Form) {course : Course} (places : ℕ) (octets : Option (List ℕ)) {fault : PcapFault} →
    course ≡ Failed fault → standing form course places octets ≡ now → Steps now (Err fault) (standing form course places octets)
steps_failed form places octets is same = rw (← same, is) (record { resolution = refl; places = refl; ahead = refl }, refl)

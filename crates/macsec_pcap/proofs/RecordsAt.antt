-- A record depends on its own octets only, and is read by two reads: head and captured octets.
use Rattle.std.proofs.{
  Common.{◌≡◌, ℕ, zero, suc, ◌+◌, ◌<◌, ◌≤◌, List, ◌++◌, length, take, drop, refl, sym, ap, subst, ◌∙◌, arith},
  Common.{length-append, take-append-drop, Option, Some, None, IfSome, Result, Ok, Err, false, nat_lt, ◌==◌},
  Common.{if◌then◌else◌, le-ltb, lt-ltb, drop_at},
  Math.Seq.drop-append-add,
  lemmas.Bool.Decides.nat_tests,
}
use Rattle.macsec_pcap.proofs.{FilledRooms.{IsFullOf, filled_whole}, NumbersAt.{number-append, number-drop-append}}
use Rattle.macsec_pcap.specs.{
  Answers.{TakesCaptured, TakesRecord, UnlessRead, head_of, record_in},
  Captures.record_within,
  Filled.IsFilled,
  Limits.max_record_length,
  Records.{CaptureRecord, captured_length, record_at},
  declared.fault.PcapFault.{PcapFault, TheVariants.{CutRecord, RecordLength, Read}},
  declared.form.Order.Order,
  declared.records.Head.Head,
}

-- what is at the beginning of n octets, given the head, the octets after the head, and the octets after the record
abbrev by_tests : ℕ → Head → List ℕ → List ℕ → Result (Option (CaptureRecord × List ℕ)) PcapFault
by_tests n head behind after =
    if n == 0 then Ok None
    else if nat_lt n 16 then Err CutRecord
    else if nat_lt max_record_length head.captured then Err RecordLength
    else if nat_lt n (16 + head.captured) then Err CutRecord
    else Ok (Some (record_in head behind, after))

-- the same, if there are octets for the head
abbrev pub at_head : Head → List ℕ → List ℕ → Result (Option (CaptureRecord × List ℕ)) PcapFault
at_head head behind after =
    if nat_lt max_record_length head.captured then Err RecordLength
    else if nat_lt (length behind) head.captured then Err CutRecord
    else Ok (Some (record_in head behind, after))

lt-more : (m c : ℕ) → nat_lt (16 + m) (16 + c) ≡ nat_lt m c
lt-more m c = grind (arith, nat_tests)

by_tests-more : (head : Head) (behind after : List ℕ) → by_tests (16 + length behind) head behind after ≡ at_head head behind after
by_tests-more head behind after =
    let some : (16 + length behind == 0) ≡ false = grind (arith, nat_tests) in
    let enough : nat_lt (16 + length behind) 16 ≡ false = le-ltb (16 + length behind) 16 (omega arith) in
    rw (some, enough, lt-more (length behind) head.captured)

drop-more : (head rest : List ℕ) (n : ℕ) → length head ≡ 16 → drop (16 + n) (head ++ rest) ≡ drop n rest
drop-more head rest n long = subst (λ k. drop (k + n) (head ++ rest) ≡ drop n rest) long (drop-append-add head rest n)

-- what is at the beginning of at least 16 octets
pub record_at-append : (order : Order) (head rest : List ℕ) → length head ≡ 16 →
    record_at order (head ++ rest) ≡ at_head (head_of order head) rest (drop (captured_length order head) rest)
record_at-append order head rest long =
    let all : length (head ++ rest) ≡ 16 + length rest = omega (arith, long, length-append head rest) in
    rw (
      all,
      number-append order 4 head rest (omega (arith, long)),
      number-drop-append order 4 4 head rest (omega (arith, long)),
      number-drop-append order 4 8 head rest (omega (arith, long)),
      number-drop-append order 4 12 head rest (omega (arith, long)),
      drop_at head rest 16 long,
      drop-more head rest (captured_length order head) long,
    ) (by_tests-more (head_of order head) rest (drop (captured_length order head) rest))

-- one more record may follow
record_within-place : (order : Order) (places : ℕ) (octets : List ℕ) → 1 ≤ places → record_within order places octets ≡ record_at order octets
record_within-place order zero octets h = absurd (omega (arith, h))
record_within-place order (suc places) octets h = refl

within : (order : Order) (places : ℕ) (octets : List ℕ) (mid : Option (List ℕ)) (head : List ℕ) (numbers : Head) →
    numbers ≡ head_of order head → 1 ≤ places → length head ≡ 16 → IsFullOf octets mid head →
    record_within order places octets ≡ at_head numbers (drop 16 octets) (drop numbers.captured (drop 16 octets))
within order places octets mid head numbers same place long full =
    let joined : octets ≡ head ++ drop 16 octets =
    sym (take-append-drop (length head) octets) ∙ ap (λ xs. xs ++ drop (length head) octets) full.front ∙ ap (λ n. head ++ drop n octets) long in
    record_within-place order places octets place ∙ ap (record_at order) joined ∙ record_at-append order head (drop 16 octets) long
    ∙ ap (λ (h : Head). at_head h (drop 16 octets) (drop h.captured (drop 16 octets))) (sym same)

left_of : (octets : List ℕ) (mid : Option (List ℕ)) (head : List ℕ) → length head ≡ 16 → IsFullOf octets mid head → mid ≡ Some (drop 16 octets)
left_of octets mid head long full = full.left ∙ ap (λ n. Some (drop n octets)) long

at_head-long : (head : Head) (behind after : List ℕ) → max_record_length < head.captured → at_head head behind after ≡ Err RecordLength
at_head-long head behind after long =
    rw (lt-ltb max_record_length head.captured long)

at_head-cut : (head : Head) (behind after : List ℕ) → head.captured ≤ max_record_length → length behind < head.captured → at_head head behind after ≡ Err CutRecord
at_head-cut head behind after fits cut =
    rw (le-ltb max_record_length head.captured fits, lt-ltb (length behind) head.captured cut)

pub at_head-whole : (head : Head) (behind after : List ℕ) → head.captured ≤ max_record_length → head.captured ≤ length behind →
    at_head head behind after ≡ Ok (Some (record_in head behind, after))
at_head-whole head behind after fits enough =
    rw (le-ltb max_record_length head.captured fits, le-ltb (length behind) head.captured enough)

fails : (head : Head) (behind after : List ℕ) (new : Option (List ℕ)) (room : List ℕ) (fault : PcapFault) →
    TakesCaptured head.captured behind new room (Err fault) → UnlessRead (at_head head behind after) (Err fault)
fails head behind after new room RecordLength h = sym (at_head-long head behind after h)
fails head behind after new room CutRecord h = sym (at_head-cut head behind after h.0 h.1)
fails head behind after new room Read h = tt
fails head behind after new room fault h = cc

-- reading a record's captured octets failed
pub takes_fault : (order : Order) (places : ℕ) (old new : Option (List ℕ)) (room : List ℕ) (fault : PcapFault) {mid : Option (List ℕ)} {head : List ℕ} {n : ℕ} {numbers : Head} →
    numbers ≡ head_of order head → 1 ≤ places → length head ≡ 16 → 16 ≤ n → IsFilled old mid head n →
    IfSome mid (λ rest. TakesCaptured numbers.captured rest new room (Err fault)) →
    IfSome old (λ octets. UnlessRead (record_within order places octets) (Err fault))
takes_fault order places None new room fault same place long whole filled taken = tt
takes_fault order places (Some octets) new room fault {mid} {head} {n} {numbers} same place long whole filled taken =
    let full = filled_whole octets mid head n filled (omega (arith, long, whole)) in
    let behind = drop 16 octets in
    let rest = rw (left_of octets mid head long full) at taken in
    subst (λ meant. UnlessRead meant (Err fault)) (sym (within order places octets mid head numbers same place long full))
    (fails numbers behind (drop numbers.captured behind) new room fault rest)

same_record : (head : Head) (room behind : List ℕ) → take head.captured room ≡ take head.captured behind → record_in head behind ≡ record_in head room
same_record head room behind same = rw (← same)

-- a record was read completely
pub takes_record : (order : Order) (places : ℕ) (old new : Option (List ℕ)) (room : List ℕ) {mid : Option (List ℕ)} {head : List ℕ} {n : ℕ} {numbers : Head} →
    numbers ≡ head_of order head → 1 ≤ places → length head ≡ 16 → 16 ≤ n → IsFilled old mid head n →
    IfSome mid (λ rest. TakesCaptured numbers.captured rest new room (Ok tt)) →
    IfSome old (λ octets. TakesRecord order places octets new room (Ok (Some numbers)))
takes_record order places None new room same place long whole filled taken = tt
takes_record order places (Some octets) new room {mid} {head} {n} {numbers} same place long whole filled taken =
    let full = filled_whole octets mid head n filled (omega (arith, long, whole)) in
    let behind = drop 16 octets in
    let rest = rw (left_of octets mid head long full) at taken in (
      drop numbers.captured behind,
      within order places octets mid head numbers same place long full
          ∙ at_head-whole numbers behind (drop numbers.captured behind) rest.0 rest.1
          ∙ ap (λ r. Ok (Some (r, drop numbers.captured behind))) (same_record numbers room behind rest.2),
      rest.3,
    )

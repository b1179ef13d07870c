-- The loop over the records: what the first k write, by induction on k, and how the loop ends.
use Rattle.{
  std.proofs.{
    Common.{◌≡◌, ℕ, ◌+◌, ◌<◌, List, [], ◌∷◌, ◌++◌, length, take, inl, inr, refl, sym, ap, subst, ◌∙◌, append_assoc},
    Common.{append-nil, arith, length-append, Option, Some, None, Ok, Err, take_at},
    KnownBytes.Appends-trans,
  },
  std.specs.Io.KnownBytes.Appends,
  macsec_secy.specs.State.State,
  macsec_writes.specs.Fronts.AppendsFront,
  macsec_pcap.specs.{
    Answers.UnlessRead,
    Captures.Capture,
    Reading.{Ahead, holds, Answers, IsAhead, ahead_after, first_of},
    Records.CaptureRecord,
    declared.fault.PcapFault.{PcapFault, TheVariants.{Read, Write}},
  },
  macsec_capture.proofs.{Cuts.up_to_front, Grown.{Grows-more, Grows-nothing}},
  macsec_capture.specs.{
    Captured.{Part, and_after, nothing, record_part, records_part},
    Runs.{Adds, CutsOutput, EndsHeld, FailsIn, Grows, IsHeldBy, IsLateFault, RunsHeld, RunsRecords, Written},
    Runs.{first_part, part_stop},
    declared.{Direction.Direction, fault.CaptureFault.{CaptureFault, TheVariants.{Script, Pcap}}},
  },
}

-- ---- what records write, and one more after them

same_part : (a b : Part) → a.output ≡ b.output → a.text ≡ b.text → a.state ≡ b.state → a ≡ b
same_part a b o t s =
    ap (λ (xs : List ℕ). record { output = xs; text = a.text; state = a.state }) o
    ∙ ap (λ (xs : List ℕ). record { output = b.output; text = xs; state = a.state }) t
    ∙ ap (λ (v : State). record { output = b.output; text = b.text; state = v }) s

part_more : (direction : Direction) (s : State) (k j : ℕ) (xs : List CaptureRecord) (r : CaptureRecord) → j ≡ k + length xs →
    records_part direction s k (xs ++ r ∷ []) ≡ and_after (records_part direction s k xs) (λ after. record_part direction after j r)
part_more direction s k j [] r same =
    let here : k ≡ j = omega (arith, same) in
    let last = record_part direction s k r in
    rw (← here) (same_part (records_part direction s k (r ∷ [])) last (append-nil last.output) (append-nil last.text) refl)
part_more direction s k j (x ∷ xs) r same =
    let first = record_part direction s k x in
    let front = records_part direction first.state (k + 1) xs in
    let last = record_part direction front.state j r in
    ap (λ (p : Part). and_after first (λ after. p)) (part_more direction first.state (k + 1) j xs r (omega (arith, same)))
    ∙ same_part (and_after first (λ after. and_after front (λ after. last))) (and_after (and_after first (λ after. front)) (λ after. last))
    (sym (append_assoc first.output front.output last.output)) (sym (append_assoc first.text front.text last.text)) refl

-- ---- the records that were taken

-- what the reader holds after the records that were taken, if that is known
abbrev pub HoldsRest : Ahead → Ahead → List CaptureRecord → Type 0
HoldsRest (holds capture) left front =
    (rest : List CaptureRecord) × (capture.records ≡ front ++ rest) × (left ≡ holds (record { records = rest; fault = capture.fault }))
HoldsRest other left front = Unit {0}

-- what the first k records write was written, and the reader holds the rest
pub record AreTaken (direction : Direction) (first : State) (begins left : Ahead) (old now : Written) (s : State) (k : ℕ) : Type 0 where
  pub front : List CaptureRecord
  pub count : length front ≡ k
  pub adds : Adds (records_part direction first 0 front) old now s
  pub held : HoldsRest begins left front

holds_all : (ahead : Ahead) → HoldsRest ahead ahead []
holds_all (holds capture) = (capture.records, refl, refl)
holds_all other = tt

-- before the first record
pub none_taken : (direction : Direction) (s : State) (ahead : Ahead) (w : Written) → AreTaken direction s ahead ahead w w s 0
none_taken direction s ahead w = record { front = []; count = refl; adds = record { grows = Grows-nothing w; state = refl }; held = holds_all ahead }

-- ---- one more record

-- the reader returned the first of the records that were left
first_held : (rest : List CaptureRecord) (end : Option PcapFault) (r : CaptureRecord) → Ok (Some r) ≡ first_of (record { records = rest; fault = end }) →
    (more : List CaptureRecord) × (rest ≡ r ∷ more)
first_held [] None r same = cc
first_held [] (Some fault) r same = cc
first_held (first ∷ more) end r same = let is : first ≡ r = cc in (more, ap (λ x. x ∷ more) is)

rest_more : (begins ahead next : Ahead) (front : List CaptureRecord) (r : CaptureRecord) → HoldsRest begins ahead front → Answers ahead (Ok (Some r)) →
    IsAhead (ahead_after ahead (Ok (Some r))) next → HoldsRest begins next (front ++ r ∷ [])
rest_more (holds capture) ahead next front r (rest, all, is) answer left =
    let answered : Ok (Some r) ≡ first_of (record { records = rest; fault = capture.fault }) = subst (λ a. Answers a (Ok (Some r))) is answer in
    let found = first_held rest capture.fault r answered in (
      found.0,
      all ∙ ap (λ rs. front ++ rs) found.1 ∙ sym (append_assoc front (r ∷ []) found.0),
      subst (λ a. IsAhead (ahead_after a (Ok (Some r))) next) (is ∙ ap (λ rs. holds (record { records = rs; fault = capture.fault })) found.1) left,
    )
rest_more other ahead next front r held answer left = tt

-- the record's number is the number of records before it
with_next : (direction : Direction) (first : State) (front : List CaptureRecord) (k : ℕ) (r : CaptureRecord) → length front ≡ k →
    records_part direction first 0 (front ++ r ∷ []) ≡ and_after (records_part direction first 0 front) (λ after. record_part direction after k r)
with_next direction first front k r count = part_more direction first 0 k front r (omega (arith, count))

pub taken_more : (direction : Direction) (first : State) (begins ahead next : Ahead) (old now new : Written) (s after : State) (k : ℕ) (r : CaptureRecord) →
    AreTaken direction first begins ahead old now s k → Answers ahead (Ok (Some r)) → IsAhead (ahead_after ahead (Ok (Some r))) next →
    Adds (record_part direction s k r) now new after → AreTaken direction first begins next old new after (k + 1)
taken_more direction first begins ahead next old now new s after k r taken answer left adds =
    let part = records_part direction first 0 taken.front in
    let piece : Adds (record_part direction part.state k r) now new after = subst (λ v. Adds (record_part direction v k r) now new after) taken.adds.state adds in
    let last = record_part direction part.state k r in record {
      front = taken.front ++ r ∷ [];
      count = length-append taken.front (r ∷ []) ∙ ap (λ n. n + 1) taken.count;
      adds = subst (λ (p : Part). Adds p old new after) (sym (with_next direction first taken.front k r taken.count)) (record {
        grows = Grows-more old now new part.output last.output part.text last.text taken.adds.grows piece.grows;
        state = piece.state;
      });
      held = rest_more begins ahead next taken.front r taken.held answer left;
    }

-- ---- the end

-- the reader has no records left
abbrev IsOver : List CaptureRecord → Option PcapFault → Option PcapFault → Type 0
IsOver rest end wanted = (rest ≡ []) × (end ≡ wanted)

over_at_none : (rest : List CaptureRecord) (end : Option PcapFault) → Ok None ≡ first_of (record { records = rest; fault = end }) → IsOver rest end None
over_at_none [] None same = (refl, refl)
over_at_none [] (Some fault) same = cc
over_at_none (first ∷ more) end same = cc

over_at_fault : (rest : List CaptureRecord) (end : Option PcapFault) (fault : PcapFault) → Err fault ≡ first_of (record { records = rest; fault = end }) →
    IsOver rest end (Some fault)
over_at_fault [] None fault same = cc
over_at_fault [] (Some other) fault same = (refl, cc)
over_at_fault (first ∷ more) end fault same = cc

-- all records were taken
whole_at_end : (direction : Direction) (first : State) (records front rest : List CaptureRecord) (old now : Written) (s : State) →
    records ≡ front ++ rest → rest ≡ [] → Adds (records_part direction first 0 front) old now s → Adds (records_part direction first 0 records) old now s
whole_at_end direction first records front rest old now s all none adds =
    let same : records ≡ front = all ∙ ap (λ rs. front ++ rs) none ∙ append-nil front in
    subst (λ rs. Adds (records_part direction first 0 rs) old now s) (sym same) adds

pub taken_end : (direction : Direction) (first : State) (begins ahead : Ahead) (old now : Written) (s : State) (k count : ℕ) → count ≡ k →
    AreTaken direction first begins ahead old now s k → Answers ahead (Ok None) → RunsRecords direction first begins count old now s (Ok tt)
taken_end direction first (holds capture) ahead old now s k count same taken answer =
    let held = taken.held in
    let ended = over_at_none held.0 capture.fault (subst (λ a. Answers a (Ok None)) held.2 answer) in
    (capture, refl, (ended.1, whole_at_end direction first capture.records taken.front held.0 old now s held.1 ended.0 taken.adds))
taken_end direction first other ahead old now s k count same taken answer =
    (record { records = taken.front; fault = None }, taken.count ∙ sym same, (refl, taken.adds))

-- ---- a stop

front_taken : (records front rest : List CaptureRecord) (n : ℕ) → records ≡ front ++ rest → length front ≡ n → take n records ≡ front
front_taken records front rest n all count = ap (take n) all ∙ take_at front rest n count

-- P holds of the part that the first n records write
at_front : (direction : Direction) (s : State) (records front rest : List CaptureRecord) (n : ℕ) (P : Part → Type 0) → records ≡ front ++ rest →
    length front ≡ n → P (records_part direction s 0 front) → P (first_part direction s records n)
at_front direction s records front rest n P all count met =
    subst (λ rs. P (records_part direction s 0 rs)) (sym (front_taken records front rest n all count)) met

-- ---- a fault of the reader

ended_by : (direction : Direction) (first : State) (capture : Capture) (front rest : List CaptureRecord) (old now : Written) (s : State) →
    capture.records ≡ front ++ rest → Adds (records_part direction first 0 front) old now s → (fault : PcapFault) →
    Err fault ≡ first_of (record { records = rest; fault = capture.fault }) → EndsHeld direction first capture old now s fault
ended_by direction first capture front rest old now s all adds fault answer =
    let ended = over_at_fault rest capture.fault fault answer in
    (ended.1, whole_at_end direction first capture.records front rest old now s all ended.0 adds)

-- a failed read, after these records; or the fault after all records
at_fault : (direction : Direction) (first : State) (capture : Capture) (front rest : List CaptureRecord) (old now : Written) (s : State) (taken : ℕ) →
    capture.records ≡ front ++ rest → length front ≡ taken → Adds (records_part direction first 0 front) old now s → (fault : PcapFault) →
    UnlessRead (first_of (record { records = rest; fault = capture.fault })) (Err fault) → RunsHeld direction first capture taken old now s (Err (Pcap fault))
at_fault direction first capture front rest old now s taken all count adds Read answer =
    let long : length capture.records ≡ length front + length rest = ap length all ∙ length-append front rest in
    (omega (arith, long, count), at_front direction first capture.records front rest taken (λ part. Grows old now part.output part.text) all count adds.grows)
at_fault direction first capture front rest old now s taken all count adds Write answer = inr (ended_by direction first capture front rest old now s all adds Write answer)
at_fault direction first capture front rest old now s taken all count adds fault answer = ended_by direction first capture front rest old now s all adds fault answer

-- the answer of a reader that holds no more records, and has this fault after them
as_answer : (fault : PcapFault) → UnlessRead (first_of (record { records = []; fault = Some fault })) (Err fault)
as_answer Read = tt
as_answer fault = refl

-- the same if it is not known what the reader holds
at_some_fault : (direction : Direction) (first : State) (front : List CaptureRecord) (old now : Written) (s : State) (taken : ℕ) → length front ≡ taken →
    Adds (records_part direction first 0 front) old now s → (fault : PcapFault) →
    RunsHeld direction first (record { records = front; fault = Some fault }) taken old now s (Err (Pcap fault))
at_some_fault direction first front old now s taken count adds fault =
    at_fault direction first (record { records = front; fault = Some fault }) front [] old now s taken (sym (append-nil front)) count adds fault (as_answer fault)

pub taken_fault : (direction : Direction) (first : State) (begins ahead : Ahead) (old now : Written) (s : State) (k count : ℕ) (fault : PcapFault) → count ≡ k →
    AreTaken direction first begins ahead old now s k → Answers ahead (Err fault) → RunsRecords direction first begins count old now s (Err (Pcap fault))
taken_fault direction first (holds capture) ahead old now s k count fault same taken answer =
    let held = taken.held in (
      capture,
      refl,
      at_fault direction first capture taken.front held.0 old now s count held.1 (taken.count ∙ sym same) taken.adds fault
          (subst (λ a. Answers a (Err fault)) held.2 answer),
    )
taken_fault direction first other ahead old now s k count fault same taken answer = (
  record { records = taken.front; fault = Some fault },
  taken.count ∙ sym same,
  at_some_fault direction first taken.front old now s count (taken.count ∙ sym same) taken.adds fault,
)

-- ---- a writer that failed

-- records that begin with these
record Beginning (begins : Ahead) (front : List CaptureRecord) (n : ℕ) : Type 0 where
  capture : Capture
  rest : List CaptureRecord
  all : capture.records ≡ front ++ rest
  held : IsHeldBy begins n capture

begin : (begins left : Ahead) (front : List CaptureRecord) (n : ℕ) → length front ≡ n → HoldsRest begins left front → Beginning begins front n
begin (holds capture) left front n count held = record { capture = capture; rest = held.0; all = held.1; held = refl }
begin other left front n count held = record { capture = record { records = front; fault = None }; rest = []; all = sym (append-nil front); held = count }

-- the output's writer failed in a part
abbrev Fails : Part → Written → Written → Type 0
Fails part now new = Appends now.text new.text part.text × AppendsFront now.output new.output part.output

-- the record after k others is one of all
within_all : (records front rest : List CaptureRecord) (r : CaptureRecord) (k : ℕ) → records ≡ (front ++ r ∷ []) ++ rest → length front ≡ k → k < length records
within_all records front rest r k all count =
    let long : length records ≡ length (front ++ r ∷ []) + length rest = ap length all ∙ length-append (front ++ r ∷ []) rest in
    omega (arith, long, length-append front (r ∷ []), count)

write_fails : (direction : Direction) (first : State) (capture : Capture) (front rest : List CaptureRecord) (old now new : Written) (s after : State) (k taken : ℕ)
    (r : CaptureRecord) (fault : CaptureFault) → k + 1 ≡ taken → capture.records ≡ (front ++ r ∷ []) ++ rest → length front ≡ k →
    Adds (records_part direction first 0 front) old now s → FailsIn (record_part direction s k r) now new fault →
    RunsHeld direction first capture taken old new after (Err fault)
write_fails direction first capture front rest old now new s after k taken r (Script fault) same all count adds fails = (
  fails.0,
  (
    k,
    same,
    within_all capture.records front rest r k all count,
    at_front direction first capture.records front (r ∷ rest) k (λ part. Appends old.output new.output part.output)
        (all ∙ append_assoc front (r ∷ []) rest) count
        (subst (λ o. Appends old.output o (records_part direction first 0 front).output) (sym fails.1) adds.grows.output),
  ),
)
write_fails direction first capture front rest old now new s after k taken r (Pcap fault) same all count adds fails =
    let part = records_part direction first 0 front in
    let last = record_part direction part.state k r in
    let piece : Fails last now new = subst (λ v. Fails (record_part direction v k r) now new) adds.state (fails.1, fails.2) in
    let cut : CutsOutput old new (part_stop part) (part_stop (and_after part (λ after. record_part direction after k r))) = (
      Appends-trans old.text now.text new.text part.text last.text adds.grows.text piece.0,
      up_to_front old.output now.output new.output part.output last.output adds.grows.output piece.1,
    ) in
    rw fails.0 (inl (
      k,
      same,
      within_all capture.records front rest r k all count,
      at_front direction first capture.records front (r ∷ rest) k
          (λ p. CutsOutput old new (part_stop p) (part_stop (first_part direction first capture.records (k + 1))))
          (all ∙ append_assoc front (r ∷ []) rest) count
          (at_front direction first capture.records (front ++ r ∷ []) rest (k + 1) (λ p. CutsOutput old new (part_stop part) (part_stop p)) all
          (length-append front (r ∷ []) ∙ ap (λ n. n + 1) count)
          (subst (λ (p : Part). CutsOutput old new (part_stop part) (part_stop p)) (sym (with_next direction first front k r count)) cut)),
    ))

pub taken_write : (direction : Direction) (first : State) (begins ahead next : Ahead) (old now new : Written) (s after : State) (k count : ℕ)
    (r : CaptureRecord) (fault : CaptureFault) → k + 1 ≡ count → AreTaken direction first begins ahead old now s k → Answers ahead (Ok (Some r)) →
    IsAhead (ahead_after ahead (Ok (Some r))) next → FailsIn (record_part direction s k r) now new fault →
    RunsRecords direction first begins count old new after (Err fault)
taken_write direction first begins ahead next old now new s after k count r fault same taken answer left fails =
    let long : length (taken.front ++ r ∷ []) ≡ count = length-append taken.front (r ∷ []) ∙ ap (λ n. n + 1) taken.count ∙ same in
    let all = begin begins next (taken.front ++ r ∷ []) count long (rest_more begins ahead next taken.front r taken.held answer left) in (
      all.capture,
      all.held,
      write_fails direction first all.capture taken.front all.rest old now new s after k count r fault same all.all taken.count taken.adds fails,
    )

pub late : (part : Part) (now new : Written) (fault : CaptureFault) → FailsIn part now new fault → IsLateFault fault
late part now new (Script fault) fails = fails.0
late part now new (Pcap fault) fails = tt

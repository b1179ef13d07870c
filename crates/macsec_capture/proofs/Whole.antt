-- A run over a whole file, composed of its parts: header, records, flush and counters.
use Rattle.{
  std.proofs.{
    Common.{◌≡◌, ℕ, List, [], ◌++◌, length, map, inl, inr, refl, sym, ap, subst, ◌∙◌, append-nil, arith, Option, Some},
    Common.{None, Result, Ok, Err, IfErr, IfSome, option_map},
    KnownBytes.{Appends-nil, Appends-trans, Keeps-refl},
  },
  std.specs.Io.{StartsWith, KnownBytes.{Appends, Keeps}},
  macsec_secy.specs.State.{State, start},
  macsec_script_parser.specs.{Parts.ConfigParts, declared.faults.ScriptFault.ScriptFault},
  macsec_script_printer.specs.{Counters.counters_text, declared.counters.Label.TheVariants.End},
  macsec_writes.specs.Fronts.AppendsFront,
  macsec_pcap.specs.{
    Captures.CaptureFile,
    Reading.{Ahead, holds, Opens, Reading, opened},
    Written.header_octets,
    declared.fault.PcapFault.{PcapFault, TheVariants.{Memory, Read, Write}},
    declared.form.Resolution.{Resolution, TheVariants.Micro},
  },
  macsec_pcapng.specs.{Captures.captures_of, Laws.{FileIsOfFormat, IsOfFormat}},
  macsec_capture.proofs.{
    Cuts.{at_flush, at_header, at_record, cut_put, next_put, up_to_behind},
    Grown.{Grows-kept, Grows-more, Grows-nothing, Kept, fault_kept},
    Stops.{at_first, at_last, first_put, put_before, some_at_first, some_behind, some_put, stops_put},
  },
  macsec_capture.specs.{
    Captured.{Captured, Part, Stop, captured_after, captured_at, commands_part, last_lines, nothing, records_part},
    Captured.stops_of,
    Runs.{Adds, AtFirst, AtSome, CaptureGives, CutsOutput, Grows, InLast, IsLateFault, RunsHeld, RunsRecords},
    Runs.{TakesFile, Written, as_read, as_read_fault, behind_header, first_part, flushed_end, known},
    declared.{Direction.Direction, fault.CaptureFault.{CaptureFault, TheVariants.{Script, Pcap}}},
  },
}
use Rattle.macsec_script_parser.specs.declared.faults.ScriptFault.TheVariants as script

module _ (direction : Direction) (s : State) (file : CaptureFile) where
  -- a run over a file, without commands before it
  abbrev pub of_file : Captured
  of_file = captured_after direction (nothing s) (Ok file)

  abbrev records_of_file : Part
  records_of_file = records_part direction s 0 file.capture.records

  abbrev header : List ℕ
  header = header_octets file.resolution

  -- ---- the records of a file, after its header

  module _ (old mid new : Written) (after : State) (first : Grows old mid header []) where
    grown_by : (part : Part) → Grows mid new part.output part.text → Grows old new (header ++ part.output) part.text
    grown_by part grows = Grows-more old mid new header part.output [] part.text first grows

    all_but_fault : (fault : PcapFault) → (file.capture.fault ≡ Some fault) × Adds records_of_file mid new after →
        (of_file.fault ≡ Some (Pcap fault)) × Grows old new of_file.output of_file.text
    all_but_fault fault ended =
        let part = records_of_file in
        let lines : part.text ≡ part.text ++ last_lines file.capture.fault part.state =
        sym (ap (λ e. part.text ++ last_lines e part.state) ended.0 ∙ append-nil part.text) in
        (ap (option_map Pcap) ended.0, subst (Grows old new (header ++ part.output)) lines (grown_by part ended.1.grows))

    -- the input or the output ends the run
    file_fault : (taken : ℕ) (fault : PcapFault) → RunsHeld direction s file.capture taken mid new after (Err (Pcap fault)) →
        CaptureGives of_file old new (Err (as_read_fault (Pcap fault)))
    file_fault taken Read runs = some_behind direction (nothing s) file taken _ runs.0 (Grows-more old mid new header _ [] _ first runs.1)
    file_fault taken Memory runs = at_last direction (nothing s) file (λ stop. Grows old new stop.output stop.text) (Grows-more old mid new header _ [] _ first runs.1.grows)
    file_fault taken Write (inl at) =
        at_record direction (nothing s) file at.0 (CutsOutput old new) at.2 (
          Appends-trans old.text mid.text new.text [] _ first.text at.3.0,
          up_to_behind old.output mid.output new.output header _ _ first.output at.3.1,
        )
    file_fault taken Write (inr ended) =
        let grown = grown_by records_of_file ended.1.grows in at_flush direction s file old new (length file.capture.records) refl grown.text grown.output
    file_fault taken fault runs = all_but_fault fault runs

    held_fault : (taken : ℕ) → IsOfFormat file.capture.fault → (fault : PcapFault) → RunsHeld direction s file.capture taken mid new after (Err (Pcap fault)) →
        CaptureGives of_file old new (Err (Pcap fault))
    held_fault taken format Memory runs = absurd (subst IsOfFormat runs.0 format)
    held_fault taken format fault runs = file_fault taken fault runs

    held_script : (taken : ℕ) (fault : ScriptFault) → fault ≡ script.Write →
        InLast file.capture.records taken (λ n. Appends mid.output new.output (first_part direction s file.capture.records n).output) →
        CaptureGives of_file old new (Err (Script fault))
    held_script taken fault is at =
        rw is (some_behind direction (nothing s) file at.0 (λ stop. Appends old.output new.output stop.output) (omega (arith, at.2))
        (Appends-trans old.output mid.output new.output header _ first.output at.3))

    file_ended : (file.capture.fault ≡ None) × Adds records_of_file mid new after → TakesFile direction s file old new after (Ok tt)
    file_ended runs = (runs.0, record { grows = grown_by records_of_file runs.1.grows; state = runs.1.state })

    held_takes : (taken : ℕ) (answer : Result (Unit {0}) CaptureFault) → IsOfFormat file.capture.fault →
        RunsHeld direction s file.capture taken mid new after answer → TakesFile direction s file old new after answer
    held_takes taken (Ok done) format runs = file_ended runs
    held_takes taken (Err (Script fault)) format runs = held_script taken fault runs.0 runs.1
    held_takes taken (Err (Pcap fault)) format runs = held_fault taken format fault runs

    -- the same whatever the reader returned
    file_takes : (taken : ℕ) (answer : Result (Unit {0}) CaptureFault) → RunsHeld direction s file.capture taken mid new after answer →
        TakesFile direction s file old new after (as_read answer)
    file_takes taken (Ok done) runs = file_ended runs
    file_takes taken (Err (Script fault)) runs = held_script taken fault runs.0 runs.1
    file_takes taken (Err (Pcap fault)) runs = file_fault taken fault runs

-- the reader was opened on this file: it has the header's unit of time, and holds the records
pub taken_of_file : ((file : List ℕ) → FileIsOfFormat (captures_of file)) → (direction : Direction) (s : State) (reader : Reading) (unit : Resolution)
    (taken : ℕ) (o m n t u : Option (List ℕ)) (after : State) (answer : Result (Unit {0}) CaptureFault) →
    unit ≡ reader.resolution → Appends o m (header_octets unit) → RunsRecords direction s reader.ahead taken (known m t) (known n u) after answer →
    (octets : List ℕ) (file : CaptureFile) → captures_of octets ≡ Ok file → reader ≡ opened file → TakesFile direction s file (known o t) (known n u) after answer
taken_of_file law direction s reader unit taken o m n t u after answer same adds runs octets file read stands =
    let held : RunsRecords direction s (holds file.capture) taken (known m t) (known n u) after answer =
    subst (λ (r : Reading). RunsRecords direction s r.ahead taken (known m t) (known n u) after answer) stands runs in
    held_takes direction s file (known o t) (known m t) (known n u) after
    (record { output = subst (λ u. Appends o m (header_octets u)) (same ∙ ap (λ (r : Reading). r.resolution) stands) adds; text = Appends-nil t })
    taken answer (subst FileIsOfFormat read (law octets))
    (subst (λ c. RunsHeld direction s c taken (known m t) (known n u) after answer) held.1 held.2)

-- any reader: it has some unit of time and some records
pub taken_of_some : (direction : Direction) (s : State) (ahead : Ahead) (unit : Resolution) (taken : ℕ) (o m n t u : Option (List ℕ)) (after : State)
    (answer : Result (Unit {0}) CaptureFault) → Appends o m (header_octets unit) →
    RunsRecords direction s ahead taken (known m t) (known n u) after answer →
    (file : CaptureFile) × TakesFile direction s file (known o t) (known n u) after (as_read answer)
taken_of_some direction s ahead unit taken o m n t u after answer adds runs =
    let file : CaptureFile = record { resolution = unit; capture = runs.0 } in
    (file, file_takes direction s file (known o t) (known m t) (known n u) after (record { output = adds; text = Appends-nil t }) taken answer runs.2)

-- the header can't be written
headless_file : (direction : Direction) (s : State) (file : CaptureFile) (o m t : Option (List ℕ)) (after : State) → AppendsFront o m (header_octets file.resolution) →
    TakesFile direction s file (known o t) (known m t) after (Err (Pcap Write))
headless_file direction s file o m t after header =
    at_header direction (nothing s) file (CutsOutput (known o t) (known m t)) (
      Appends-nil t,
      (header.0, refl, subst (λ xs. StartsWith xs header.0) (sym (append-nil (header_octets file.resolution))) header.1, header.2),
    )

pub headless : (direction : Direction) (s : State) (reader : Reading) (unit : Resolution) (o m t : Option (List ℕ)) (fault : PcapFault) → fault ≡ Write →
    unit ≡ reader.resolution → AppendsFront o m (header_octets unit) →
    (octets : List ℕ) (file : CaptureFile) → captures_of octets ≡ Ok file → reader ≡ opened file →
    TakesFile direction s file (known o t) (known m t) s (Err (Pcap fault))
headless direction s reader unit o m t fault is same cut octets file read stands =
    rw is (headless_file direction s file o m t s
    (subst (λ u. AppendsFront o m (header_octets u)) (same ∙ ap (λ (r : Reading). r.resolution) stands) cut))

abbrev no_records : Resolution → CaptureFile
no_records unit = record { resolution = unit; capture = record { records = []; fault = None } }

pub headless_some : (direction : Direction) (s : State) (unit : Resolution) (o m t : Option (List ℕ)) (fault : PcapFault) → fault ≡ Write →
    AppendsFront o m (header_octets unit) → (file : CaptureFile) × TakesFile direction s file (known o t) (known m t) s (as_read (Err (Pcap fault)))
headless_some direction s unit o m t fault is cut = (
  no_records unit,
  rw is (headless_file direction s (no_records unit) o m t s cut),
)

-- ---- the flush of the output, and the counters

-- the output was flushed
flushed_file : {E : Type 0} (direction : Direction) (s : State) (file : CaptureFile) (old mid new : Written) (after : State) → Kept mid new →
    (written : Result (Unit {0}) CaptureFault) (flushed : Result (Unit {0}) E) →
    TakesFile direction s file old mid after written → TakesFile direction s file old new after (flushed_end written flushed)
flushed_file direction s file old mid new after kept (Err fault) flushed takes = fault_kept (of_file direction s file) old mid new kept fault takes
flushed_file direction s file old mid new after kept (Ok done) (Err error) takes =
    let grown = Grows-kept old mid new (behind_header file (records_of_file direction s file)).output (records_of_file direction s file).text kept takes.1.grows in
    at_flush direction s file old new (length file.capture.records) refl grown.text grown.output
flushed_file direction s file old mid new after kept (Ok done) (Ok flushed) takes = (
  takes.0,
  record {
    grows = Grows-kept old mid new (behind_header file (records_of_file direction s file)).output (records_of_file direction s file).text kept takes.1.grows;
    state = takes.1.state;
  },
)

pub flushed : {E : Type 0} (direction : Direction) (s : State) (reader : Reading) (o m n t u : Option (List ℕ)) (after : State) → Keeps m n →
    (written : Result (Unit {0}) CaptureFault) (ended : Result (Unit {0}) E) →
    ((octets : List ℕ) (file : CaptureFile) → captures_of octets ≡ Ok file → reader ≡ opened file → TakesFile direction s file (known o t) (known m u) after written) →
    (octets : List ℕ) (file : CaptureFile) → captures_of octets ≡ Ok file → reader ≡ opened file →
    TakesFile direction s file (known o t) (known n u) after (flushed_end written ended)
flushed direction s reader o m n t u after keeps written ended takes octets file read stands =
    flushed_file direction s file (known o t) (known m u) (known n u) after (record { output = keeps; text = Keeps-refl u }) written ended
    (takes octets file read stands)

flushed_as_read : {E : Type 0} (written : Result (Unit {0}) CaptureFault) (ended : Result (Unit {0}) E) →
    flushed_end (as_read written) ended ≡ as_read (flushed_end written ended)
flushed_as_read (Err fault) ended = refl
flushed_as_read (Ok done) (Err error) = refl
flushed_as_read (Ok done) (Ok flushed) = refl

pub flushed_some : {E : Type 0} (direction : Direction) (s : State) (o m n t u : Option (List ℕ)) (after : State) → Keeps m n →
    (written : Result (Unit {0}) CaptureFault) (ended : Result (Unit {0}) E) →
    (file : CaptureFile) × TakesFile direction s file (known o t) (known m u) after (as_read written) →
    (file : CaptureFile) × TakesFile direction s file (known o t) (known n u) after (as_read (flushed_end written ended))
flushed_some direction s o m n t u after keeps written ended (file, takes) = (
  file,
  subst (λ answer. TakesFile direction s file (known o t) (known n u) after answer) (flushed_as_read written ended)
      (flushed_file direction s file (known o t) (known m u) (known n u) after (record { output = keeps; text = Keeps-refl u }) (as_read written) ended takes),
)

-- the counters can't be printed
pub uncounted : (direction : Direction) (s : State) (file : CaptureFile) (o n t u v : Option (List ℕ)) (after : State) (fault : ScriptFault) → fault ≡ script.Write →
    TakesFile direction s file (known o t) (known n u) after (Ok tt) → CaptureGives (of_file direction s file) (known o t) (known n v) (Err (Script fault))
uncounted direction s file o n t u v after fault is takes =
    rw is (at_last direction (nothing s) file (λ stop. Appends o n stop.output) takes.1.grows.output)

-- the counters are printed
pub counted : (direction : Direction) (s : State) (file : CaptureFile) (o n t u v : Option (List ℕ)) (after : State) →
    TakesFile direction s file (known o t) (known n u) after (Ok tt) → Appends u v (counters_text End after) →
    CaptureGives (of_file direction s file) (known o t) (known n v) (Ok tt)
counted direction s file o n t u v after takes prints =
    let part = records_of_file direction s file in
    let lines : counters_text End after ≡ last_lines file.capture.fault part.state =
    ap (counters_text End) takes.1.state ∙ sym (ap (λ e. last_lines e part.state) takes.0) in (
      ap (option_map Pcap) takes.0,
      record {
        output = takes.1.grows.output;
        text = Appends-trans t u v part.text (last_lines file.capture.fault part.state) takes.1.grows.text (subst (Appends u v) lines prints);
      },
    )

-- ---- a file that was not opened

header_fault : (direction : Direction) (s : State) (file : Result CaptureFile PcapFault) (w : Written) (fault : PcapFault) → Err fault ≡ file →
    ((captured_after direction (nothing s) file).fault ≡ Some (Pcap fault))
    × Grows w w (captured_after direction (nothing s) file).output (captured_after direction (nothing s) file).text
header_fault direction s file w fault same =
    let at : Result CaptureFile PcapFault → Captured = captured_after direction (nothing s) in
    subst (λ f. ((at f).fault ≡ Some (Pcap fault)) × Grows w w (at f).output (at f).text) same (refl, Grows-nothing w)

same_stops : (direction : Direction) (ready : Part) (file : Result CaptureFile PcapFault) → stops_of direction ready file ≡ (captured_after direction ready file).stops
same_stops direction ready (Err fault) = refl
same_stops direction ready (Ok file) = refl

unopened_gives : ((file : List ℕ) → FileIsOfFormat (captures_of file)) → (direction : Direction) (s : State) (octets : List ℕ) (w : Written) (fault : PcapFault) →
    Opens (captures_of octets) (Err fault) → CaptureGives (captured_after direction (nothing s) (captures_of octets)) w w (Err (Pcap fault))
unopened_gives law direction s octets w Read h =
    subst (λ stops. AtSome stops (λ stop. Grows w w stop.output stop.text)) (same_stops direction (nothing s) (captures_of octets))
    (some_at_first direction (nothing s) (captures_of octets) (λ stop. Grows w w stop.output stop.text) (Grows-nothing w))
unopened_gives law direction s octets w Memory h =
    subst (λ stops. AtFirst stops (λ stop. Grows w w stop.output stop.text)) (same_stops direction (nothing s) (captures_of octets))
    (at_first direction (nothing s) (captures_of octets) (λ stop. Grows w w stop.output stop.text) (Grows-nothing w))
unopened_gives law direction s octets w Write h = absurd (subst FileIsOfFormat (sym h) (law octets))
unopened_gives law direction s octets w fault h = header_fault direction s (captures_of octets) w fault h

pub unopened : ((file : List ℕ) → FileIsOfFormat (captures_of file)) → (direction : Direction) (s : State) (input : Option (List ℕ)) (w : Written) (fault : PcapFault) →
    IfSome input (λ file. Opens (captures_of file) (Err fault)) →
    IfSome input (λ file. CaptureGives (captured_after direction (nothing s) (captures_of file)) w w (Err (Pcap fault)))
unopened law direction s None w fault h = tt
unopened law direction s (Some octets) w fault h = unopened_gives law direction s octets w fault h

-- any reader
pub unopened_some : (direction : Direction) (s : State) (w : Written) (fault : PcapFault) →
    (file : Result CaptureFile PcapFault) × CaptureGives (captured_after direction (nothing s) file) w w (as_read (Err (Pcap fault)))
unopened_some direction s w Read = (Err Read, some_at_first direction (nothing s) (Err Read) (λ stop. Grows w w stop.output stop.text) (Grows-nothing w))
unopened_some direction s w Memory = (Err Read, some_at_first direction (nothing s) (Err Read) (λ stop. Grows w w stop.output stop.text) (Grows-nothing w))
unopened_some direction s w Write = (Ok (no_records Micro), headless_file direction s (no_records Micro) w.output w.output w.text s ([], refl, Appends-nil w.output))
unopened_some direction s w fault = (Err fault, header_fault direction s (Err fault) w fault refl)

-- ---- a file that was opened

pub opened_gives : (direction : Direction) (s : State) (input : Option (List ℕ)) (reader : Reading) (old new : Written) (answer : Result (Unit {0}) CaptureFault) →
    IfSome input (λ file. Opens (captures_of file) (Ok reader)) →
    ((octets : List ℕ) (file : CaptureFile) → captures_of octets ≡ Ok file → reader ≡ opened file → CaptureGives (of_file direction s file) old new answer) →
    IfSome input (λ file. CaptureGives (captured_after direction (nothing s) (captures_of file)) old new answer)
opened_gives direction s None reader old new answer opens gives = tt
opened_gives direction s (Some octets) reader old new answer opens gives =
    subst (λ f. CaptureGives (captured_after direction (nothing s) f) old new answer) (sym opens.1) (gives octets opens.0 opens.1 opens.2)

-- ---- after what the commands printed

-- the same with lines in front of the text
abbrev behind : List ℕ → Captured → Captured
behind lines whole = record { output = whole.output; text = lines ++ whole.text; fault = whole.fault; stops = map (put_before lines) whole.stops }

behind_grown : (lines : List ℕ) (octets said : List ℕ) (old mid new : Written) → mid.output ≡ old.output → Appends old.text mid.text lines →
    Grows mid new octets said → Grows old new octets (lines ++ said)
behind_grown lines octets said old mid new same prints grown = record {
  output = subst (λ o. Appends o new.output octets) same grown.output;
  text = Appends-trans old.text mid.text new.text lines said prints grown.text;
}

behind_fault : (lines : List ℕ) (whole : Captured) (old mid new : Written) → mid.output ≡ old.output → Appends old.text mid.text lines →
    (fault : PcapFault) → CaptureGives whole mid new (Err (Pcap fault)) → CaptureGives (behind lines whole) old new (Err (Pcap fault))
behind_fault lines whole old mid new same prints Read gives =
    some_put lines whole.stops _ _ (λ stop grown. behind_grown lines stop.output stop.text old mid new same prints grown) gives
behind_fault lines whole old mid new same prints Memory gives =
    first_put lines whole.stops _ _ (λ stop grown. behind_grown lines stop.output stop.text old mid new same prints grown) gives
behind_fault lines whole old mid new same prints Write gives =
    next_put (put_before lines) whole.stops _ _ (λ before after cut. cut_put lines old mid new before after same prints cut) gives
behind_fault lines whole old mid new same prints fault gives = (gives.0, behind_grown lines whole.output whole.text old mid new same prints gives.1)

behind_script : (lines : List ℕ) (whole : Captured) (old mid new : Written) → mid.output ≡ old.output → (fault : ScriptFault) → fault ≡ script.Write →
    CaptureGives whole mid new (Err (Script fault)) → CaptureGives (behind lines whole) old new (Err (Script fault))
behind_script lines whole old mid new same fault is gives =
    rw is (some_put lines whole.stops _ (λ stop. Appends old.output new.output stop.output) (λ stop adds. subst (λ o. Appends o new.output stop.output) same adds)
    (rw is at gives))

behind_gives : (lines : List ℕ) (whole : Captured) (old mid new : Written) → mid.output ≡ old.output → Appends old.text mid.text lines →
    (answer : Result (Unit {0}) CaptureFault) → IfErr answer IsLateFault → CaptureGives whole mid new answer → CaptureGives (behind lines whole) old new answer
behind_gives lines whole old mid new same prints (Ok done) late gives = (gives.0, behind_grown lines whole.output whole.text old mid new same prints gives.1)
behind_gives lines whole old mid new same prints (Err (Script fault)) late gives = behind_script lines whole old mid new same fault late gives
behind_gives lines whole old mid new same prints (Err (Pcap fault)) late gives = behind_fault lines whole old mid new same prints fault gives

captured_after-behind : (direction : Direction) (ready : Part) (file : Result CaptureFile PcapFault) →
    behind ready.text (captured_after direction (nothing ready.state) file) ≡ captured_after direction ready file
captured_after-behind direction ready (Err fault) =
    ap (λ (xs : List ℕ). record { output = []; text = xs; fault = Some (Pcap fault); stops = map (put_before ready.text) (stops_of direction (nothing ready.state) (Err fault)) })
    (append-nil ready.text)
    ∙ ap (λ (stops : List Stop). record { output = []; text = ready.text; fault = Some (Pcap fault); stops = stops }) (stops_put direction ready (Err fault))
captured_after-behind direction ready (Ok file) =
    let whole = captured_after direction ready (Ok file) in
    ap (λ (stops : List Stop). record { output = whole.output; text = whole.text; fault = whole.fault; stops = stops }) (stops_put direction ready (Ok file))

-- the commands were carried out, and then the file was run
pub ready_gives : (direction : Direction) (ready : Part) (s : State) (file : Result CaptureFile PcapFault) (old mid new : Written) → s ≡ ready.state →
    mid.output ≡ old.output → Appends old.text mid.text ready.text → (answer : Result (Unit {0}) CaptureFault) → IfErr answer IsLateFault →
    CaptureGives (captured_after direction (nothing s) file) mid new answer → CaptureGives (captured_after direction ready file) old new answer
ready_gives direction ready s file old mid new is same prints answer late gives =
    subst (λ (whole : Captured). CaptureGives whole old new answer) (captured_after-behind direction ready file)
    (behind_gives ready.text (captured_after direction (nothing ready.state) file) old mid new same prints answer late
    (subst (λ v. CaptureGives (captured_after direction (nothing v) file) mid new answer) is gives))

pub late_as_read : (answer : Result (Unit {0}) CaptureFault) → IfErr answer IsLateFault → IfErr (as_read answer) IsLateFault
late_as_read (Ok done) late = tt
late_as_read (Err (Script fault)) late = late
late_as_read (Err (Pcap Memory)) late = tt
late_as_read (Err (Pcap fault)) late = tt

pub configured_over : (direction : Direction) (config : ConfigParts) (first s : State) (file : Result CaptureFile PcapFault)
    (o n t m u : Option (List ℕ)) (answer : Result (Unit {0}) CaptureFault) →
    first ≡ start config.end → s ≡ (commands_part first config.commands).state → Appends t m (commands_part first config.commands).text → IfErr answer IsLateFault →
    CaptureGives (captured_after direction (nothing s) file) (known o m) (known n u) answer →
    CaptureGives (captured_at direction config file) (known o t) (known n u) answer
configured_over direction config first s file o n t m u answer created same adds late gives =
    ready_gives direction (commands_part (start config.end) config.commands) s file (known o t) (known o m) (known n u)
    (same ∙ ap (λ v. (commands_part v config.commands).state) created) refl (subst (λ v. Appends t m (commands_part v config.commands).text) created adds) answer late gives

pub configured_gives : (direction : Direction) (config : ConfigParts) (first s : State) (input o n t m u : Option (List ℕ))
    (answer : Result (Unit {0}) CaptureFault) →
    first ≡ start config.end → s ≡ (commands_part first config.commands).state → Appends t m (commands_part first config.commands).text → IfErr answer IsLateFault →
    IfSome input (λ file. CaptureGives (captured_after direction (nothing s) (captures_of file)) (known o m) (known n u) answer) →
    IfSome input (λ file. CaptureGives (captured_at direction config (captures_of file)) (known o t) (known n u) answer)
configured_gives direction config first s None o n t m u answer created same adds late gives = tt
configured_gives direction config first s (Some file) o n t m u answer created same adds late gives =
    configured_over direction config first s (captures_of file) o n t m u answer created same adds late gives

pub configured_some : (direction : Direction) (config : ConfigParts) (first s : State) (o n t m u : Option (List ℕ))
    (answer : Result (Unit {0}) CaptureFault) →
    first ≡ start config.end → s ≡ (commands_part first config.commands).state → Appends t m (commands_part first config.commands).text → IfErr answer IsLateFault →
    (file : Result CaptureFile PcapFault) × CaptureGives (captured_after direction (nothing s) file) (known o m) (known n u) (as_read answer) →
    (file : Result CaptureFile PcapFault) × CaptureGives (captured_at direction config file) (known o t) (known n u) (as_read answer)
configured_some direction config first s o n t m u answer created same adds late (file, gives) = (
  file,
  configured_over direction config first s file o n t m u (as_read answer) created same adds (late_as_read answer late) gives,
)

-- the commands can't be printed
unprinted_over : (direction : Direction) (config : ConfigParts) (file : Result CaptureFile PcapFault) (o t u : Option (List ℕ)) →
    CaptureGives (captured_at direction config file) (known o t) (known o u) (Err (Script script.Write))
unprinted_over direction config file o t u =
    let ready = commands_part (start config.end) config.commands in
    subst (λ stops. AtSome stops (λ stop. Appends o o stop.output)) (same_stops direction ready file)
    (some_at_first direction ready file (λ stop. Appends o o stop.output) (Appends-nil o))

pub unprinted : (direction : Direction) (config : ConfigParts) (input o t u : Option (List ℕ)) (fault : ScriptFault) → fault ≡ script.Write →
    IfSome input (λ file. CaptureGives (captured_at direction config (captures_of file)) (known o t) (known o u) (Err (Script fault)))
unprinted direction config None o t u fault is = tt
unprinted direction config (Some file) o t u fault is =
    rw is (unprinted_over direction config (captures_of file) o t u)

pub unprinted_some : (direction : Direction) (config : ConfigParts) (o t u : Option (List ℕ)) (fault : ScriptFault) → fault ≡ script.Write →
    (file : Result CaptureFile PcapFault) × CaptureGives (captured_at direction config file) (known o t) (known o u) (as_read (Err (Script fault)))
unprinted_some direction config o t u fault is = (
  Err Read,
  rw is (unprinted_over direction config (Err Read) o t u),
)

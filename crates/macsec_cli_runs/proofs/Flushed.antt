-- The contract of a run still holds after the text is flushed.
use Rattle.std.{
  proofs.Common.{◌≡◌, ℕ, List, Option, Some, None, Result, Ok, Err, inl, inr, refl, subst, sym, IfErr, IfSome},
  proofs.KnownBytes.Keeps-refl,
  specs.Io.KnownBytes.Keeps,
}
use Rattle.macsec_pcap.specs.{Captures.CaptureFile, declared.fault.PcapFault.PcapFault}
use Rattle.macsec_capture.{
  proofs.{Ended.written_whole, Grown.{Grows-kept, Kept, Stays-kept, fault_kept, forgotten}},
  specs.Captured.{captured, captured_over},
  specs.Runs.{CaptureGives, IsUnread, JudgesConfig, LeavesBoth, RunsSome, Written, as_read},
  specs.declared.{Direction.Direction, fault.CaptureFault.{CaptureFault, TheVariants.{Script, Pcap}}},
}
use Rattle.macsec_cli_runs.specs.{
  Captures.{CaptureFailsAs, LeavesLines, Reports, RunsFiles, capture_end, reported},
  declared.{captures.CapturePaths.CapturePaths, failures.Failure.Failure},
}
use Rattle.macsec_script_parser.specs.declared.faults.ScriptFault.TheVariants as script

abbrev known : Option (List ℕ) → Option (List ℕ) → Written
known octets lines = record { output = octets; text = lines }

-- the flush of the text leaves the output unchanged
kept : (octets mid new : Option (List ℕ)) → Keeps mid new → Kept (known octets mid) (known octets new)
kept octets mid new keeps = record { output = Keeps-refl octets; text = keeps }

given : {E : Type 0} (direction : Direction) (config : List ℕ) (file : Result CaptureFile PcapFault) (old mid new : Written) → Kept mid new →
    (done : Result (Unit {0}) CaptureFault) (text : Result (Unit {0}) E) → CaptureGives (captured_over direction config file) old mid done →
    CaptureGives (captured_over direction config file) old new (capture_end done text)
given direction config file old mid new keeps (Err fault) text gives = fault_kept (captured_over direction config file) old mid new keeps fault gives
given direction config file old mid new keeps (Ok done) (Err error) gives =
    let whole = captured_over direction config file in
    written_whole direction config file old new gives.0 (Grows-kept old mid new whole.output whole.text keeps gives.1)
given direction config file old mid new keeps (Ok done) (Ok flushed) gives =
    let whole = captured_over direction config file in (gives.0, Grows-kept old mid new whole.output whole.text keeps gives.1)

-- the same if the readers' octets are known
pub flushed : {E : Type 0} (direction : Direction) (config file : Option (List ℕ)) (old : Written) (octets mid new : Option (List ℕ)) → Keeps mid new →
    (done : Result (Unit {0}) CaptureFault) (text : Result (Unit {0}) E) →
    IfSome config (λ c. IfSome file (λ f. CaptureGives (captured direction c f) old (known octets mid) done)) →
    IfSome config (λ c. IfSome file (λ f. CaptureGives (captured direction c f) old (known octets new) (capture_end done text)))
flushed direction None file old octets mid new keeps done text gives = tt
flushed direction (Some c) None old octets mid new keeps done text gives = tt
flushed direction (Some c) (Some f) old octets mid new keeps done text gives =
    given direction c _ old (known octets mid) (known octets new) (kept octets mid new keeps) done text gives

-- the same over any readers
end_as_read : {E : Type 0} (done : Result (Unit {0}) CaptureFault) (text : Result (Unit {0}) E) → capture_end (as_read done) text ≡ as_read (capture_end done text)
end_as_read (Err fault) text = refl
end_as_read (Ok done) (Err error) = refl
end_as_read (Ok done) (Ok flushed) = refl

end_judged : {E : Type 0} (config : List ℕ) (done : Result (Unit {0}) CaptureFault) (text : Result (Unit {0}) E) → JudgesConfig config done →
    JudgesConfig config (capture_end done text)
end_judged config (Err fault) text judges = judges
end_judged config (Ok done) (Err error) judges = judges
end_judged config (Ok done) (Ok flushed) judges = judges

unread : {E : Type 0} (old mid new : Written) (done : Result (Unit {0}) CaptureFault) (text : Result (Unit {0}) E) → Kept mid new → IsUnread old mid done →
    IsUnread old new (capture_end done text)
unread old mid new (Err (Script fault)) text keeps none = (none.0, Stays-kept old mid new keeps none.1)
unread old mid new (Err (Pcap fault)) text keeps none = absurd none
unread old mid new (Ok done) text keeps none = absurd none

pub flushed_some : {E : Type 0} (direction : Direction) (reader : Option (List ℕ)) (old : Written) (octets mid new : Option (List ℕ)) → Keeps mid new →
    (done : Result (Unit {0}) CaptureFault) (text : Result (Unit {0}) E) → RunsSome direction reader old (known octets mid) done →
    RunsSome direction reader old (known octets new) (capture_end done text)
flushed_some direction reader old octets mid new keeps done text (inl none) =
    inl (unread old (known octets mid) (known octets new) done text (kept octets mid new keeps) none)
flushed_some direction reader old octets mid new keeps done text (inr (config, has, judges, (file, gives))) = inr (
  config,
  has,
  end_judged config done text judges,
  (
    file,
    subst (λ answer. CaptureGives (captured_over direction config file) old (known octets new) answer) (end_as_read done text)
        (given direction config file old (known octets mid) (known octets new) (kept octets mid new keeps) (as_read done) text gives),
  ),
)

-- what was not written is not written by the flush either
pub unwritten : {E : Type 0} (old : Written) (octets mid new : Option (List ℕ)) → Keeps mid new → (done : Result (Unit {0}) CaptureFault) (text : Result (Unit {0}) E) →
    IfErr done (LeavesBoth old (known octets mid)) → IfErr (capture_end done text) (LeavesBoth old (known octets new))
unwritten old octets mid new keeps (Ok done) (Err error) leaves = tt
unwritten old octets mid new keeps (Ok done) (Ok flushed) leaves = tt
unwritten old octets mid new keeps (Err (Script script.Write)) text leaves = tt
unwritten old octets mid new keeps (Err (Script fault)) text leaves = Stays-kept old (known octets mid) (known octets new) (kept octets mid new keeps) leaves
unwritten old octets mid new keeps (Err (Pcap fault)) text leaves = tt

-- ---- what the program reports

failed : (paths : CapturePaths) (done : Result (Unit {0}) CaptureFault) → IfErr (reported done) (CaptureFailsAs paths)
failed paths (Ok done) = tt
failed paths (Err (Script fault)) = (Script fault, refl)
failed paths (Err (Pcap fault)) = (Pcap fault, refl)

pub fails_as : (paths : CapturePaths) (result : Result (Unit {0}) Failure) (P : Result (Unit {0}) CaptureFault → Type 0) → Reports result P →
    IfErr result (CaptureFailsAs paths)
fails_as paths result P report = subst (λ r. IfErr r (CaptureFailsAs paths)) (sym report.1) (failed paths report.0)

unprinted : (old new : Written) (done : Result (Unit {0}) CaptureFault) → IfErr done (LeavesBoth old new) → IfErr (reported done) (LeavesLines old.text new.text)
unprinted old new (Ok done) leaves = tt
unprinted old new (Err (Script script.Write)) leaves = tt
unprinted old new (Err (Script fault)) leaves = leaves.text
unprinted old new (Err (Pcap fault)) leaves = tt

pub leaves_lines : (o n t u : Option (List ℕ)) (result : Result (Unit {0}) Failure) → Reports result (λ done. IfErr done (LeavesBoth (known o t) (known n u))) →
    IfErr result (LeavesLines t u)
leaves_lines o n t u result report =
    subst (λ r. IfErr r (LeavesLines t u)) (sym report.1) (unprinted (known o t) (known n u) report.0 report.2)

-- over files, whose octets are not known
unknown : (direction : Direction) (reader : Option (List ℕ)) (old new : Written) (done : Result (Unit {0}) CaptureFault) →
    RunsSome direction reader old new done → RunsSome direction None (known None old.text) (known None new.text) done
unknown direction reader old new (Err (Script fault)) (inl none) = inl (none.0, record { output = tt; text = none.1.text })
unknown direction reader old new (Err (Pcap fault)) (inl none) = absurd none
unknown direction reader old new (Ok done) (inl none) = absurd none
unknown direction reader old new done (inr (config, has, judges, (file, gives))) =
    inr (config, (has.0, tt), judges, (file, forgotten (captured_over direction config file) old new (as_read done) gives))

pub runs_files : (direction : Direction) (reader o n t u : Option (List ℕ)) (result : Result (Unit {0}) Failure) →
    Reports result (RunsSome direction reader (known o t) (known n u)) → RunsFiles direction t u result
runs_files direction reader o n t u result (done, is, runs) = inr (done, is, unknown direction reader (known o t) (known n u) done runs)

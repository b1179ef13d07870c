-- A run without a fault has written the output of its last stop.
use Rattle.{
  std.{proofs.Common.{◌≡◌, ℕ, List, [], Option, None, Result, Ok, Err}, specs.Io.KnownBytes.Appends},
  macsec_secy.specs.State.start,
  macsec_script_parser.specs.{Parts.ConfigParts, Scripts.config_of, declared.faults.ScriptFault.ScriptFault},
  macsec_pcap.specs.{Captures.CaptureFile, declared.fault.PcapFault.PcapFault},
  macsec_capture.{
    proofs.Stops.at_last,
    specs.Captured.{Captured, Part, captured_after, captured_by, captured_over, commands_part},
    specs.Runs.{AtSome, CaptureGives, Grows, Written},
    specs.declared.{Direction.Direction, fault.CaptureFault.TheVariants.Script},
  },
}
use Rattle.macsec_script_parser.specs.declared.faults.ScriptFault.TheVariants as script

-- the complete output is what some stop has
abbrev IsAtOutput : Option (List ℕ) → Option (List ℕ) → Captured → Type 0
IsAtOutput old new whole = whole.fault ≡ None → Appends old new whole.output → AtSome whole.stops (λ stop. Appends old new stop.output)

after_end : (old new : Option (List ℕ)) (direction : Direction) (ready : Part) (file : Result CaptureFile PcapFault) → IsAtOutput old new (captured_after direction ready file)
after_end old new direction ready (Err fault) none adds = cc
after_end old new direction ready (Ok file) none adds = at_last direction ready file (λ stop. Appends old new stop.output) adds

by_config : (old new : Option (List ℕ)) (direction : Direction) (config : Result ConfigParts ScriptFault) (file : Result CaptureFile PcapFault) →
    IsAtOutput old new (captured_by direction config file)
by_config old new direction (Err fault) file none adds = cc
by_config old new direction (Ok config) file none adds = after_end old new direction (commands_part (start config.end) config.commands) file none adds

-- so the contract of a failing text holds once everything was written
pub written_whole : (direction : Direction) (config : List ℕ) (file : Result CaptureFile PcapFault) (old new : Written) → (captured_over direction config file).fault ≡ None →
    Grows old new (captured_over direction config file).output (captured_over direction config file).text →
    CaptureGives (captured_over direction config file) old new (Err (Script script.Write))
written_whole direction config file old new none grows = by_config old.output new.output direction (config_of config) file none grows.output

-- What a run over a capture file writes to the output and to the text.
use Rattle.std.specs.Prelude.{ℕ, ◌+◌, List, [], ◌∷◌, ◌++◌, length, map, take, Option, Some, None, Result, Ok, Err, option_map}
use Rattle.std.specs.List.{range_with_len}
use Rattle.macsec_secy.specs.State.{State, start}
use Rattle.macsec_secy.specs.Step.{Input, client_frame, link_frame, operator_command, Output, leaves, received, step}
use Rattle.macsec_script_parser.specs.declared.faults.ScriptFault.{ScriptFault}
use Rattle.macsec_script_parser.specs.Parts.{ConfigParts, NumberedCommand}
use Rattle.macsec_script_parser.specs.Scripts.{config_of}
use Rattle.macsec_script_printer.specs.declared.counters.Label.TheVariants.{End}
use Rattle.macsec_script_printer.specs.Counters.{counters_text}
use Rattle.macsec_script_printer.specs.OneEnd.{command_text}
use Rattle.macsec_pcap.specs.declared.fault.PcapFault.{PcapFault}
use Rattle.macsec_pcap.specs.Records.{CaptureRecord, Content, whole, partial, other_link}
use Rattle.macsec_pcap.specs.Captures.{CaptureFile}
use Rattle.macsec_pcap.specs.Written.{header_octets, record_octets}
use Rattle.macsec_pcapng.specs.Captures.{captures_of}
use Rattle.macsec_capture.specs.declared.Direction.{Direction}
use Rattle.macsec_capture.specs.declared.Direction.TheVariants.{Protect, Validate}
use Rattle.macsec_capture.specs.declared.fault.CaptureFault.{CaptureFault}
use Rattle.macsec_capture.specs.declared.fault.CaptureFault.TheVariants.{Script, Pcap}
use Rattle.macsec_capture.specs.Lines.{frame_line, link_type_line, partial_line}

-- what a part of a run writes to the output and to the text, and the endpoint after it
pub record Part : Type 0 where
  pub output : List ℕ
  pub text : List ℕ
  pub state : State

abbrev pub nothing : State → Part
nothing s = record { output = []; text = []; state = s }

-- a part, and then another from the endpoint after the first
abbrev pub and_after : Part → (State → Part) → Part
and_after first next = record {
  output = first.output ++ (next first.state).output;
  text = first.text ++ (next first.state).text;
  state = (next first.state).state;
}

-- ---- the configuration

abbrev pub command_part : ℕ → Output × State → Part
command_part n answer = record { output = []; text = command_text n answer.0; state = answer.1 }

-- what line n of a configuration prints
abbrev pub line_part : State → NumberedCommand → Part
line_part s (n, command) = command_part n (step s (operator_command command))

abbrev pub commands_part : State → List NumberedCommand → Part
commands_part s [] = nothing s
commands_part s (said ∷ more) = and_after (line_part s said) (λ after. commands_part after more)

-- ---- the records

-- a frame is a client frame to protect, or a link frame to validate
abbrev pub input_of : Direction → List ℕ → Input
input_of Protect frame = client_frame frame
input_of Validate frame = link_frame frame

-- the frame for the output: what is sent to the link, or what is delivered at the controlled port
abbrev pub frame_of_output : Output → Option (List ℕ)
frame_of_output (leaves frame under) = Some frame
frame_of_output (received verdict row shown controlled) = controlled
frame_of_output other = None

-- the output's record of a frame, with the time of the record that it came from
abbrev pub record_of_frame : CaptureRecord → Option (List ℕ) → List ℕ
record_of_frame r None = []
record_of_frame r (Some frame) = record_octets r.seconds r.fraction frame

abbrev pub frame_part : ℕ → CaptureRecord → Output × State → Part
frame_part k r answer = record {
  output = record_of_frame r (frame_of_output answer.0);
  text = frame_line k answer.0;
  state = answer.1;
}

-- record number k with this content; only a whole frame reaches the endpoint
abbrev pub body_part : Direction → State → ℕ → CaptureRecord → Content → Part
body_part direction s k r partial = record { output = []; text = partial_line k; state = s }
body_part direction s k r (other_link number) = record { output = []; text = link_type_line k number; state = s }
body_part direction s k r (whole frame) = frame_part k r (step s (input_of direction frame))

abbrev pub record_part : Direction → State → ℕ → CaptureRecord → Part
record_part direction s k r = body_part direction s k r r.content

-- records from number k on
abbrev pub records_part : Direction → State → ℕ → List CaptureRecord → Part
records_part direction s k [] = nothing s
records_part direction s k (r ∷ more) = and_after (record_part direction s k r) (λ after. records_part direction after (k + 1) more)

-- ---- the stops

-- a point where a failing device can end a run, as what is written by then
pub record Stop : Type 0 where
  pub output : List ℕ
  pub text : List ℕ

-- after the commands
abbrev pub first_stop : Part → Stop
first_stop ready = record { output = []; text = ready.text }

-- after the output's header and these first records
abbrev pub stop_after : Part → CaptureFile → Part → Stop
stop_after ready file records = record { output = header_octets file.resolution ++ records.output; text = ready.text ++ records.text }

-- after the first n records
abbrev pub stop_behind : Direction → Part → CaptureFile → ℕ → Stop
stop_behind direction ready file n = stop_after ready file (records_part direction ready.state 0 (take n file.capture.records))

-- all stops, in order: after the commands, and if the file's header has no fault, after 0 records, 1, .. and all
abbrev pub stops_of : Direction → Part → Result CaptureFile PcapFault → List Stop
stops_of direction ready (Err fault) = first_stop ready ∷ []
stops_of direction ready (Ok file) =
    first_stop ready ∷ map (stop_behind direction ready file) (range_with_len 0 (length file.capture.records + 1))

-- ---- the run

-- what is written, the fault that ends the run, if any, and the stops; a configuration with a fault has no stops
pub record Captured : Type 0 where
  pub output : List ℕ
  pub text : List ℕ
  pub fault : Option CaptureFault
  pub stops : List Stop

-- the counters after the last record, unless the file has a fault; no stop has them
abbrev pub last_lines : Option PcapFault → State → List ℕ
last_lines None s = counters_text End s
last_lines (Some fault) s = []

-- for a file without a fault in its header: a header with the same unit of time, and a record for each frame
abbrev pub captured_file : Direction → Part → CaptureFile → Part → Captured
captured_file direction ready file records = record {
  output = header_octets file.resolution ++ records.output;
  text = ready.text ++ (records.text ++ last_lines file.capture.fault records.state);
  fault = option_map Pcap file.capture.fault;
  stops = stops_of direction ready (Ok file);
}

-- a run over a file, after what the commands of the configuration printed
abbrev pub captured_after : Direction → Part → Result CaptureFile PcapFault → Captured
captured_after direction ready (Err fault) = record {
  output = [];
  text = ready.text;
  fault = Some (Pcap fault);
  stops = stops_of direction ready (Err fault);
}
captured_after direction ready (Ok file) =
    captured_file direction ready file (records_part direction ready.state 0 file.capture.records)

abbrev pub captured_at : Direction → ConfigParts → Result CaptureFile PcapFault → Captured
captured_at direction config file = captured_after direction (commands_part (start config.end) config.commands) file

abbrev pub captured_by : Direction → Result ConfigParts ScriptFault → Result CaptureFile PcapFault → Captured
captured_by direction (Err fault) file = record { output = []; text = []; fault = Some (Script fault); stops = [] }
captured_by direction (Ok config) file = captured_at direction config file

-- a run in this direction, by this configuration, over this capture
abbrev pub captured_over : Direction → List ℕ → Result CaptureFile PcapFault → Captured
captured_over direction config file = captured_by direction (config_of config) file

-- a run over the capture file of these octets
abbrev pub captured : Direction → List ℕ → List ℕ → Captured
captured direction config file = captured_over direction config (captures_of file)

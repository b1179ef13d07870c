-- The machine: one input, its output, and the state after it.
use Rattle.std.specs.Prelude.{ℕ, List, length, nat_lt, option_map, if◌then◌else◌, Option, Some, None}
use Rattle.macsec_tag.specs.declared.identifiers.Sci.{Sci}
use Rattle.macsec_suite.specs.declared.refusal.Refusal.{Refusal}
use Rattle.macsec_tag.specs.Limits.{min_frame_len, max_frame_len}
use Rattle.macsec_tx.specs.Transmit.{Leaving, plain, protected, no_sa, too_long, Sending, sending, rows_after, keys_after}
use Rattle.macsec_rx.specs.declared.Verdict.{Verdict}
use Rattle.macsec_rx.specs.Judge.{Judgement, place_of}
use Rattle.macsec_secy.specs.declared.fault.FrameFault.{FrameFault}
use Rattle.macsec_secy.specs.declared.fault.FrameFault.TheVariants.{Short, Long}
use Rattle.macsec_commands.specs.declared.command.Command.{Command}
use Rattle.macsec_secy.specs.State.{State, tx_options}
use Rattle.macsec_secy.specs.Counting.{count_leaving, count_protected}
use Rattle.macsec_secy.specs.Commands.{refusal, state_after_command}
use Rattle.macsec_secy.specs.Reception.{judgement_of, state_after_receiving}

-- what is sent for a client frame, and the SA that protects it
abbrev pub sending_of : State → List ℕ → Sending
sending_of s frame = sending (tx_options s) s.keys s.tx frame

-- the state after it
abbrev pub state_after_sending : State → List ℕ → Sending → State
state_after_sending s frame sent = record s {
  tx = rows_after s.tx sent.by;
  keys = keys_after s.keys sent.by;
  counters = count_leaving sent.leaving s.counters;
  tx_counters = count_protected sent.by frame s.tx_counters;
}

-- the inputs: a management command, a client frame from the controlled port, a client frame from the uncontrolled port,
-- or a frame from the link
pub data Input : Type 0 where
  operator_command : Command → Input
  client_frame : List ℕ → Input
  uncontrolled_frame : List ℕ → Input
  link_frame : List ℕ → Input

-- the outputs; a protected frame has the number of the key that protects it
pub data Output : Type 0 where
  done : Output
  refused : Refusal → Output
  leaves : (frame : List ℕ) → (under : Option ℕ) → Output
  dropped_no_sa : Output
  dropped_too_long : Output
  -- the frame itself is shown at the uncontrolled port
  received : (verdict : Verdict) → (row : Option (Sci × ℕ)) → (shown : List ℕ) → (controlled : Option (List ℕ)) → Output
  fault : FrameFault → Output

-- a frame shorter than 14 or longer than 9,248 octets has a fault, and changes nothing
abbrev pub frame_fault : List ℕ → Option FrameFault
frame_fault frame =
    if nat_lt (length frame) min_frame_len then Some Short
    else if nat_lt max_frame_len (length frame) then Some Long
    else None

-- a command is done if nothing refuses it
abbrev pub command_output : Option Refusal → Output
command_output None = done
command_output (Some r) = refused r

-- the output for a client frame
abbrev pub sent_output : List ℕ → Leaving → Output
sent_output frame plain = leaves frame None
sent_output frame (protected key protected_frame) = leaves protected_frame (Some key)
sent_output frame no_sa = dropped_no_sa
sent_output frame too_long = dropped_too_long

-- the output for a link frame
abbrev pub received_output : List ℕ → Judgement → Output
received_output frame j = received j.verdict (option_map place_of j.row) frame j.delivered

-- the output and the state after; for a frame with a fault, the fault and the same state
abbrev pub unless_fault : Option FrameFault → State → Output × State → Output × State
unless_fault None s answer = answer
unless_fault (Some f) s answer = (fault f, s)

-- the output, and the state after
abbrev pub step : State → Input → Output × State
step s (operator_command c) = (command_output (refusal s c), state_after_command s c)
step s (client_frame frame) =
    unless_fault (frame_fault frame) s
    (sent_output frame (sending_of s frame).leaving, state_after_sending s frame (sending_of s frame))
step s (uncontrolled_frame frame) = unless_fault (frame_fault frame) s (leaves frame None, s)
step s (link_frame frame) =
    unless_fault (frame_fault frame) s
    (received_output frame (judgement_of s frame), state_after_receiving s frame (judgement_of s frame))

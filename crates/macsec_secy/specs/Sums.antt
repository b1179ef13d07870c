-- The sum law for received frames (IEEE 802.1AE, 10.7): each received frame raises the sum of the received-packet
-- counters of the endpoint and all its SCs by one, modulo 2^64. Only the deletion of an SC changes it otherwise.
use Rattle.std.specs.Prelude.{◌≡◌, ◌+◌, ◌%◌, ◌^◌, ℕ, Bool, false, if◌then◌else◌, is_some, not}
use Rattle.std.specs.List.{sum_by}
use Rattle.macsec_secy.specs.declared.counters.Counters.{Counters}
use Rattle.macsec_secy.specs.declared.counters.RxCounters.{RxCounters}
use Rattle.macsec_commands.specs.declared.command.Command.TheVariants.{RxScDel}
use Rattle.macsec_secy.specs.State.{State}
use Rattle.macsec_secy.specs.Counting.{plus}
use Rattle.macsec_secy.specs.Commands.{refusal}
use Rattle.macsec_secy.specs.Step.{Input, operator_command, client_frame, uncontrolled_frame, link_frame, frame_fault, step}

-- the number of received packets that the endpoint counted
abbrev pub packets_of : Counters → ℕ
packets_of c =
    c.in_pkts_untagged + c.in_pkts_no_tag + c.in_pkts_bad_tag + c.in_pkts_reserved + c.in_pkts_no_sa + c.in_pkts_no_sa_error

-- the number of received packets that an SC counted
abbrev pub channel_packets_of : RxCounters → ℕ
channel_packets_of c =
    c.in_pkts_ok + c.in_pkts_unchecked + c.in_pkts_delayed + c.in_pkts_late + c.in_pkts_invalid + c.in_pkts_not_valid

-- their sum over the endpoint and its SCs, modulo 2^64
abbrev pub frames_counted : State → ℕ
frames_counted s = (packets_of s.counters + sum_by (λ row. channel_packets_of row.counters) s.rx_counters) % 2 ^ 64

-- by how much an input raises the sum: a received frame without a fault by one
abbrev pub frames_added : Input → ℕ
frames_added (operator_command c) = 0
frames_added (client_frame frame) = 0
frames_added (uncontrolled_frame frame) = 0
frames_added (link_frame frame) = if is_some (frame_fault frame) then 0 else 1

-- the input is a command that deletes an SC, and it is not refused
abbrev pub removes_channel : State → Input → Bool
removes_channel s (operator_command (RxScDel sci)) = not (is_some (refusal s (RxScDel sci)))
removes_channel s input = false

-- an input raises the sum by that much, unless it deletes an SC
abbrev pub AddsFrames : State → Input → Type 0
AddsFrames s input = removes_channel s input ≡ false → frames_counted (step s input).1 ≡ plus (frames_counted s) (frames_added input)

-- Reception within limits: the step for a link frame, unless the frame is valid and its packet number is outside the
-- limits of its receive SA. Then the frame is dropped, and nothing changes (IEEE 802.1AE, 10.6).
use Rattle.std.specs.Prelude.{◌≡◌, ℕ, List, Option, Some, None, Result, Ok, Err}
use Rattle.macsec_rx.specs.declared.within.PnLimits.{PnLimits}
use Rattle.macsec_rx.specs.declared.within.OutsidePn.{OutsidePn}
use Rattle.macsec_rx.specs.Channels.{Channels}
use Rattle.macsec_rx.specs.Within.{outside}
use Rattle.macsec_secy.specs.declared.answers.LimitedReceived.{LimitedReceived}
use Rattle.macsec_secy.specs.declared.answers.LimitedReceived.TheVariants as by
use Rattle.macsec_secy.specs.declared.counters.ChannelCounters.{ChannelCounters}
use Rattle.macsec_secy.specs.declared.counters.Counters.{Counters}
use Rattle.macsec_secy.specs.declared.fault.FrameFault.{FrameFault}
use Rattle.macsec_secy.specs.declared.reception.Outcome.{Outcome}
use Rattle.macsec_secy.specs.Answers.{output_of_received}
use Rattle.macsec_secy.specs.Outcomes.{IsStep, IsWithin, output_of_outcome, with_received}
use Rattle.macsec_secy.specs.Reception.{judgement_of}
use Rattle.macsec_secy.specs.State.{State}
use Rattle.macsec_secy.specs.Step.{Output, fault, frame_fault, link_frame, step}

-- the machine's output, or that the frame is dropped
pub data LimitedOutput : Type 0 where
  within : Output → LimitedOutput
  dropped_outside : OutsidePn → LimitedOutput

abbrev pub outside_unless_fault : Option FrameFault → Option OutsidePn → Option OutsidePn
outside_unless_fault None at = at
outside_unless_fault (Some f) at = None

-- on which side of the limits of its SA the packet number of a valid frame is, if it is outside them
abbrev pub outside_frame : List PnLimits → State → List ℕ → Option OutsidePn
outside_frame limits s frame = outside_unless_fault (frame_fault frame) (outside limits s.rx.rows (judgement_of s frame))

abbrev pub limited_by : Option OutsidePn → State → Output × State → LimitedOutput × State
limited_by None s answer = (within answer.0, answer.1)
limited_by (Some at) s answer = (dropped_outside at, s)

abbrev pub limited_step : State → List PnLimits → List ℕ → LimitedOutput × State
limited_step s limits frame = limited_by (outside_frame limits s frame) s (step s (link_frame frame))

-- ---- what the calls return

abbrev pub output_of_limited : Result LimitedReceived FrameFault → LimitedOutput
output_of_limited (Ok (by.Received r)) = within (output_of_received (Ok r))
output_of_limited (Ok (by.Outside at)) = dropped_outside at
output_of_limited (Err f) = within (fault f)

abbrev pub output_of_limited_outcome : Result Outcome OutsidePn → List ℕ → List ℕ → LimitedOutput
output_of_limited_outcome (Ok outcome) frame room = within (output_of_outcome outcome frame room)
output_of_limited_outcome (Err at) frame room = dropped_outside at

-- of `receive_into`, with the buffer that it wrote
abbrev pub output_of_placed : Result (Result Outcome OutsidePn) FrameFault → List ℕ → List ℕ → LimitedOutput
output_of_placed (Ok outcome) frame room = output_of_limited_outcome outcome frame room
output_of_placed (Err f) frame room = within (fault f)

-- a delivered frame is within a buffer of this length
abbrev pub IsPlacedWithin : Result (Result Outcome OutsidePn) FrameFault → ℕ → Type 0
IsPlacedWithin (Ok (Ok outcome)) room_length = IsWithin outcome.delivered room_length
IsPlacedWithin (Ok (Err at)) room_length = Unit {0}
IsPlacedWithin (Err f) room_length = Unit {0}

-- the frame is within the limits, and the outcome and the parts after it are those of the machine's step; or it is
-- outside, and the parts are as before
abbrev pub IsLimitedStep : State → List PnLimits → List ℕ → List ℕ → Result Outcome OutsidePn → Channels → List ChannelCounters → Counters → Type 0
IsLimitedStep s limits frame room (Ok outcome) rx rx_counters counters =
    (outside_frame limits s frame ≡ None) × IsStep s frame room outcome rx rx_counters counters
IsLimitedStep s limits frame room (Err at) rx rx_counters counters =
    (outside_frame limits s frame ≡ Some at) × (with_received s rx rx_counters counters ≡ s)

-- A link frame within limits: it takes the machine's step, or nothing changes.
use Rattle.std.proofs.Common.{IfOk}
use Rattle.macsec_rx.specs.{Within.outside, declared.within.{OutsidePn.OutsidePn, PnLimits.PnLimits}}
use Rattle.macsec_secy.{
  proofs.{
    Names.{◌∙◌, ◌≡◌, ap, AreChannels, ArePartsOf, ChannelCounters, Channels, Counters, Err, frame_fault, if◌then◌else◌},
    Names.{InstalledKey, IsLimitedStep, IsSound, judge_tagged, limited_step, link_frame, List, MpduParts, None, Ok},
    Names.{Option, Outcome, reading, refl, Result, RxOptions, State, step, subst, sym, tagged, with_received, ℕ},
    ReceivedFrames.received_sound,
  },
  specs.{Limited.{IsPlacedWithin, limited_by, outside_frame, output_of_limited_outcome, within}, Outcomes.IsWithin},
}

-- a tagged frame, by the parts of a state
pub tagged_side : (s : State) (limits : List PnLimits) (frame : List ℕ) (p : MpduParts) → reading frame ≡ tagged p → frame_fault frame ≡ None →
    (options : RxOptions) (keys : List InstalledKey) (before : Channels) (rows : List ChannelCounters) (old : Counters) (at : Option OutsidePn) →
    ArePartsOf s options keys before rows old → at ≡ outside limits before.rows (judge_tagged options keys before p) → outside_frame limits s frame ≡ at
tagged_side s limits frame p reads fits options keys before rows old at parts is =
    rw (fits, reads, is, parts.same_options, parts.same_keys, parts.same_channels) refl

-- the parts of a state are the state's
pub same_parts : (s : State) (options : RxOptions) (keys : List InstalledKey) (rx new : Channels) (rows : List ChannelCounters) (counters : Counters) →
    ArePartsOf s options keys rx rows counters → new ≡ rx → with_received s new rows counters ≡ s
same_parts s options keys rx new rows counters parts is = rw (is, parts.same_channels, parts.same_rx_counters, parts.same_counters) refl

-- the machine within limits, by the outcome
pub after_is : (s : State) (limits : List PnLimits) (frame room : List ℕ) (outcome : Result Outcome OutsidePn) (rx : Channels) (rows : List ChannelCounters) (counters : Counters) →
    IsLimitedStep s limits frame room outcome rx rows counters → with_received s rx rows counters ≡ (limited_step s limits frame).1
after_is s limits frame room (Ok outcome) rx rows counters it = it.1.after ∙ sym (ap (λ at. (limited_by at s (step s (link_frame frame))).1) it.0)
after_is s limits frame room (Err at) rx rows counters it = it.1 ∙ sym (ap (λ at. (limited_by at s (step s (link_frame frame))).1) it.0)

pub output_is : (s : State) (limits : List PnLimits) (frame room : List ℕ) (outcome : Result Outcome OutsidePn) (rx : Channels) (rows : List ChannelCounters) (counters : Counters) →
    IsLimitedStep s limits frame room outcome rx rows counters → output_of_limited_outcome outcome frame room ≡ (limited_step s limits frame).0
output_is s limits frame room (Ok outcome) rx rows counters it = ap within it.1.output ∙ sym (ap (λ at. (limited_by at s (step s (link_frame frame))).0) it.0)
output_is s limits frame room (Err at) rx rows counters it = sym (ap (λ at. (limited_by at s (step s (link_frame frame))).0) it.0)

-- an endpoint stays sound
pub limited_sound : (s : State) (limits : List PnLimits) (frame room : List ℕ) (outcome : Result Outcome OutsidePn) (rx : Channels) (rows : List ChannelCounters) (counters : Counters) →
    IsSound s → IsLimitedStep s limits frame room outcome rx rows counters → AreChannels rx → IsSound (with_received s rx rows counters)
limited_sound s limits frame room (Ok outcome) rx rows counters sound it channels = received_sound s frame room outcome rx rows counters sound it.1 channels
limited_sound s limits frame room (Err at) rx rows counters sound it channels = subst IsSound (sym it.1) sound

-- where the delivered frame is
pub placed_within : (outcome : Result Outcome OutsidePn) (room_length : ℕ) → IfOk outcome (λ o. IsWithin o.delivered room_length) → IsPlacedWithin (Ok outcome) room_length
placed_within (Ok outcome) room_length it = it
placed_within (Err at) room_length it = tt

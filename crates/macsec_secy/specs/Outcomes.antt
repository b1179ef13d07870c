-- The outcome of a link frame: what the endpoint returns for it, before the frames themselves are borrowed.
use Rattle.std.specs.Prelude.{◌≡◌, ◌+◌, ◌≤◌, ℕ, List, Option, Some, None}
use Rattle.macsec_suite.specs.KeyRows.{InstalledKey}
use Rattle.macsec_rx.specs.declared.RxOptions.{RxOptions}
use Rattle.macsec_rx.specs.Channels.{Channels}
use Rattle.macsec_rx.specs.Judge.{octets_at}
use Rattle.macsec_secy.specs.declared.counters.ChannelCounters.{ChannelCounters}
use Rattle.macsec_secy.specs.declared.counters.Counters.{Counters}
use Rattle.macsec_secy.specs.declared.reception.Delivered.{Delivered}
use Rattle.macsec_secy.specs.declared.reception.Delivered.TheVariants.{Nothing, Frame, At}
use Rattle.macsec_secy.specs.declared.reception.Outcome.{Outcome}
use Rattle.macsec_secy.specs.State.{State, rx_options}
use Rattle.macsec_secy.specs.Step.{Output, link_frame, received, step}

-- the delivered frame, if there is one: the received frame, or octets of the buffer
abbrev pub octets_delivered : Delivered → List ℕ → List ℕ → Option (List ℕ)
octets_delivered Nothing frame room = None
octets_delivered Frame frame room = Some frame
octets_delivered (At place len) frame room = Some (octets_at room (place, len))

-- it is within a buffer of this length
abbrev pub IsWithin : Delivered → ℕ → Type 0
IsWithin Nothing room_length = Unit {0}
IsWithin Frame room_length = Unit {0}
IsWithin (At place len) room_length = place + len ≤ room_length

-- the machine's output with this outcome
abbrev pub output_of_outcome : Outcome → List ℕ → List ℕ → Output
output_of_outcome outcome frame room =
    received outcome.verdict outcome.row frame (octets_delivered outcome.delivered frame room)

-- these are the parts of a state on which reception depends
pub record ArePartsOf (s : State) (options : RxOptions) (keys : List InstalledKey) (rx : Channels) (rx_counters : List ChannelCounters) (counters : Counters) : Type 0 where
  pub same_options : options ≡ rx_options s
  pub same_keys : keys ≡ s.keys
  pub same_channels : rx ≡ s.rx
  pub same_rx_counters : rx_counters ≡ s.rx_counters
  pub same_counters : counters ≡ s.counters

-- the state with other receive SCs and counters
abbrev pub with_received : State → Channels → List ChannelCounters → Counters → State
with_received s rx rx_counters counters = record s { rx = rx; counters = counters; rx_counters = rx_counters }

-- the outcome and the parts after it are those of the machine's step
pub record IsStep (s : State) (frame room : List ℕ) (outcome : Outcome) (rx : Channels) (rx_counters : List ChannelCounters) (counters : Counters) : Type 0 where
  pub output : output_of_outcome outcome frame room ≡ (step s (link_frame frame)).0
  pub after : with_received s rx rx_counters counters ≡ (step s (link_frame frame)).1

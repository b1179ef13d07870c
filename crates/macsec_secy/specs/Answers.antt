-- The results of an endpoint's calls, as outputs of the machine.
use Rattle.std.specs.Prelude.{◌≡◌, ◌≤◌, ◌+◌, length, IsSome, ℕ, List, Option, Some, None, Result, Ok, Err, option_and_then, option_map, find}
use Rattle.std.specs.Borrow.{Bor}
use Rattle.macsec_suite.specs.declared.refusal.Refusal.{Refusal}
use Rattle.macsec_commands.specs.declared.config.EndConfig.{EndConfig}
use Rattle.macsec_secy.specs.declared.fault.FrameFault.{FrameFault}
use Rattle.macsec_commands.specs.declared.fault.NewFault.{NewFault}
use Rattle.macsec_commands.specs.declared.fault.NewFault.TheVariants.{Memory, MaxFrame, SciForm}
use Rattle.macsec_secy.specs.declared.answers.Received.{Received}
use Rattle.macsec_secy.specs.declared.answers.Sent.{Sent}
use Rattle.macsec_secy.specs.declared.answers.Sent.TheVariants as sent
use Rattle.macsec_secy.specs.declared.answers.Planned.{Planned}
use Rattle.macsec_secy.specs.declared.answers.Planned.TheVariants.{Plain, Job, Dropped}
use Rattle.macsec_tag.specs.Limits.{max_frame_len, min_frame_len}
use Rattle.macsec_suite.specs.KeyRows.{InstalledKey, key_row, prepared_key, the_key}
use Rattle.macsec_tx.specs.declared.SealJob.{SealJob}
use Rattle.macsec_tx.specs.Answers.{frame_sealed}
use Rattle.macsec_tx.specs.Transmit.{octets_added}
use Rattle.macsec_secy.specs.declared.answers.DropReason.{DropReason}
use Rattle.macsec_secy.specs.declared.answers.DropReason.TheVariants.{NoSa, TooLong}
use Rattle.macsec_tag.specs.declared.identifiers.Sci.{Sci}
use Rattle.macsec_rx.specs.Channels.{same_sci}
use Rattle.macsec_secy.specs.declared.counters.RxCounters.{RxCounters}
use Rattle.macsec_secy.specs.declared.counters.ChannelCounters.{ChannelCounters}
use Rattle.macsec_secy.specs.Counting.{counters_at}
use Rattle.macsec_secy.specs.State.{State, start}
use Rattle.macsec_commands.specs.Configs.{config_fault}
use Rattle.macsec_secy.specs.Step.{Output, done, refused, leaves, dropped_no_sa, dropped_too_long, received, fault}

abbrev pub output_of_command : {A : Type 0} → Result A Refusal → Output
output_of_command (Ok nothing) = done
output_of_command (Err r) = refused r

-- nothing is sent, for this reason
abbrev pub drop_output : DropReason → Output
drop_output NoSa = dropped_no_sa
drop_output TooLong = dropped_too_long

abbrev pub output_of_sent : Result Sent FrameFault → Output
output_of_sent (Ok (sent.Link frame under)) = leaves frame.now under
output_of_sent (Ok (sent.Dropped reason)) = drop_output reason
output_of_sent (Err f) = fault f

-- the key of the job's number is in the table, and with it the job seals what is sent, of at most 9,248 octets
pub record SealsOutput (job : SealJob) (keys : List InstalledKey) (frame : List ℕ) (output : Output) : Type 0 where
  pub there : IsSome (key_row keys job.key.number)
  pub sends : output ≡ leaves (frame_sealed (prepared_key (the_key keys job.key.number)) job frame) (Some job.key.number)
  pub fits : length frame + octets_added job.tag ≤ max_frame_len
  pub least : min_frame_len ≤ length frame

-- the plan says what is sent
abbrev pub PlansOutput : Result Planned FrameFault → List InstalledKey → List ℕ → Output → Type 0
PlansOutput (Ok (Plain planned)) keys frame output = output ≡ leaves planned.now None
PlansOutput (Ok (Job job)) keys frame output = SealsOutput job keys frame output
PlansOutput (Ok (Dropped reason)) keys frame output = output ≡ drop_output reason
PlansOutput (Err f) keys frame output = output ≡ fault f

-- if a frame is to be sealed, this holds of the job
abbrev pub IfPlanned : Result Planned FrameFault → (SealJob → Type 0) → Type 0
IfPlanned (Ok (Plain planned)) holds = Unit {0}
IfPlanned (Ok (Job job)) holds = holds job
IfPlanned (Ok (Dropped reason)) holds = Unit {0}
IfPlanned (Err f) holds = Unit {0}

abbrev pub output_of_received : Result Received FrameFault → Output
output_of_received (Ok r) = received r.verdict r.row r.uncontrolled.now (option_map (λ (f : Bor (List ℕ)). f.now) r.controlled)
output_of_received (Err f) = fault f

abbrev pub output_of_frame : Result (Bor (List ℕ)) FrameFault → Output
output_of_frame (Ok frame) = leaves frame.now None
output_of_frame (Err f) = fault f

-- the result of `new`: the state at creation; or the configuration's fault; or, if it has none, out of memory
abbrev pub MakesEndpoint : EndConfig → Result State NewFault → Type 0
MakesEndpoint config (Ok s) = (config_fault config ≡ None) × (s ≡ start config)
MakesEndpoint config (Err Memory) = config_fault config ≡ None
MakesEndpoint config (Err MaxFrame) = config_fault config ≡ Some MaxFrame
MakesEndpoint config (Err SciForm) = config_fault config ≡ Some SciForm

-- the counters of the SC with this SCI and of its SAs, if it exists
abbrev pub channel_counters_of : List ChannelCounters → Sci → Option ChannelCounters
channel_counters_of rows sci = find (λ row. same_sci row.sci sci) rows

-- the SC's counters, if it exists
abbrev pub rx_counters_of : List ChannelCounters → Sci → Option RxCounters
rx_counters_of rows sci = option_map (λ (row : ChannelCounters). row.counters) (channel_counters_of rows sci)

-- the counters of its SA with this number, if it exists
abbrev pub rx_sa_counters_of : List ChannelCounters → Sci → ℕ → Option RxCounters
rx_sa_counters_of rows sci an =
    option_and_then (λ (row : ChannelCounters). counters_at row.associations an) (channel_counters_of rows sci)

-- the sums of the counters of its deleted SAs, if the SC exists
abbrev pub rx_removed_of : List ChannelCounters → Sci → Option RxCounters
rx_removed_of rows sci = option_map (λ (row : ChannelCounters). row.removed) (channel_counters_of rows sci)

-- Each received frame raises the sum of the received-packet counters by one. Only the deletion of an SC changes it
-- otherwise.
use Rattle.std.proofs.{Common.add-zero, lemmas.List.Sums.sum_by_push}
use Rattle.macsec_secy.proofs.{
  Names.{◌%◌, ◌+◌, ◌^◌, ◌∙◌, ◌≡◌, AddsFrames, ap, arith, at_channel, bad, Bool, ChannelCounters, Command},
  Names.{count_in_channel, count_octets_received, Counters, data_counted, Delayed, effect, false, frame_fault},
  Names.{FrameFault, if◌then◌else◌, Invalid, is_some, IsRxRow, IsSound, Judgement, judgement_of, Key, Late, link_frame},
  Names.{List, map, nat_le, None, not, NotValid, octets_counted, operator_command, Option, Output, packet_counted},
  Names.{Passed, plus, Protect, Reading, reading, received_output, refl, Refusal, refusal, Replay, Retire},
  Names.{rx_packet_counted, RxDel, RxLow, RxOff, RxOn, RxRow, RxSa, RxSc, RxScDel, Some, State, state_after_receiving},
  Names.{Tag, tagged, true, TxDel, TxOff, TxOn, TxSa, Unchecked, unless_fault, unless_refused, untagged, used_in},
  Names.{Validate, Verdict, with_association, without_association, ℕ},
  DeliveredFrom.all_rows,
  InUse.used_holds,
  JudgedBy.{JudgedBy, judged_by, step_1, step_2, step_3, step_4, step_5, step_6, step_7, step_8, step_9, step_10},
  JudgedBy.{step_11, step_12, step_13},
  Sums.{IsOneMore, IsOneMore-add_left, IsOneMore-channels_packets, IsOneMore-raised_part, RaisesOne, RaisesOne-Delayed},
  Sums.{RaisesOne-Invalid, RaisesOne-Late, RaisesOne-NotValid, RaisesOne-Passed, RaisesOne-Unchecked, channels_packets},
  Sums.{channels_packets-at_channel, mod-as_plus_0},
}
use Rattle.macsec_secy.specs.Sums.{frames_counted, packets_of, removes_channel}

-- ---- what the judgement raises

abbrev IsCountedOnce : List ChannelCounters → Judgement → Type 0
IsCountedOnce rows j =
    (c : Counters) → IsOneMore (packets_of (packet_counted j c) + channels_packets (rx_packet_counted j rows)) (packets_of c + channels_packets rows)

-- the SC of the SA that is enabled for a frame has counters, and counts the frame once
in_channel : (s : State) → IsSound s → (r : Reading) (row : RxRow) → used_in s r ≡ Some row → (verdict : Verdict) → RaisesOne verdict → (packets : ℕ) →
    IsOneMore (packets + channels_packets (map (at_channel (count_in_channel verdict row.an) row.sci) s.rx_counters)) (packets + channels_packets s.rx_counters)
in_channel s sound r row used verdict raises packets =
    let of = used_holds (IsRxRow s.rx.scis) s r row (all_rows s.rx.scis s.rx.rows sound.rx.rows) used in
    IsOneMore-add_left packets _ _
    (IsOneMore-channels_packets verdict raises row.sci row.an s.rx_counters (rw sound.channels sound.rx.scis) (rw sound.channels of.channel))

once : (s : State) → IsSound s → (frame : List ℕ) (r : Reading) (j : Judgement) → JudgedBy s frame r j → IsCountedOnce s.rx_counters j
once s sound frame r j step_1 c = IsOneMore-raised_part _ _ c.in_pkts_no_tag (omega arith)
once s sound frame r j step_2 c = IsOneMore-raised_part _ _ c.in_pkts_untagged (omega arith)
once s sound frame r j step_3 c = IsOneMore-raised_part _ _ c.in_pkts_bad_tag (omega arith)
once s sound frame r j step_4 c = IsOneMore-raised_part _ _ c.in_pkts_reserved (omega arith)
once s sound frame r j step_5 c = IsOneMore-raised_part _ _ c.in_pkts_no_sa_error (omega arith)
once s sound frame r j step_6 c = IsOneMore-raised_part _ _ c.in_pkts_no_sa (omega arith)
once s sound frame r j (step_7 used) c = IsOneMore-raised_part _ _ c.in_pkts_bad_tag (omega arith)
once s sound frame r j (step_8 used) c = in_channel s sound r _ used Late RaisesOne-Late (packets_of c)
once s sound frame r j (step_9 it mode) c = in_channel s sound r _ it.used NotValid RaisesOne-NotValid (packets_of c)
once s sound frame r j (step_10 it mode true) c = in_channel s sound r _ it.used Delayed RaisesOne-Delayed (packets_of c)
once s sound frame r j (step_10 it mode false) c = in_channel s sound r _ it.used Unchecked RaisesOne-Unchecked (packets_of c)
once s sound frame r j (step_11 it mode) c = in_channel s sound r _ it.used NotValid RaisesOne-NotValid (packets_of c)
once s sound frame r j (step_12 it mode) c = in_channel s sound r _ it.used Invalid RaisesOne-Invalid (packets_of c)
once s sound frame r j (step_13 it mode opens true) c = in_channel s sound r _ it.used Delayed RaisesOne-Delayed (packets_of c)
once s sound frame r j (step_13 it mode opens false) c = in_channel s sound r _ it.used Passed RaisesOne-Passed (packets_of c)

-- ---- frames

-- counting octets does not change the packet counters
octets_apart : (j : Judgement) (r : Reading) (c : Counters) → packets_of (octets_counted j r c) ≡ packets_of c
octets_apart j r c = by_step (nat_le 11 j.step) r
  where
    by_suit : (e : Bool) (octets : ℕ) → packets_of (count_octets_received e octets c) ≡ packets_of c
    by_suit true octets = refl
    by_suit false octets = refl

    by_step : (b : Bool) (q : Reading) → packets_of (if b then data_counted q c else c) ≡ packets_of c
    by_step false q = refl
    by_step true untagged = refl
    by_step true (bad fault) = refl
    by_step true (tagged p) = by_suit p.tag.e _

after_link_frame : (s : State) → IsSound s → (frame : List ℕ) (output : Output) (fault : Option FrameFault) →
    frames_counted (unless_fault fault s (output, state_after_receiving s frame (judgement_of s frame))).1 ≡ plus (frames_counted s) (if is_some fault then 0 else 1)
after_link_frame s sound frame output None =
    let j = judgement_of s frame in
    ap (λ n. (n + channels_packets (rx_packet_counted j s.rx_counters)) % 2 ^ 64) (octets_apart j (reading frame) (packet_counted j s.counters)) ∙
    once s sound frame (reading frame) j (judged_by s frame (reading frame)) s.counters
after_link_frame s sound frame output (Some fault) = mod-as_plus_0 _

-- ---- commands

-- a command whose effect keeps the sum keeps it, also if it is refused
keeps : (s : State) (c : Command) → frames_counted (effect s c) ≡ frames_counted s → frames_counted (unless_refused (refusal s c) s c) ≡ plus (frames_counted s) 0
keeps s c same = by_refusal (refusal s c)
  where
    by_refusal : (r : Option Refusal) → frames_counted (unless_refused r s c) ≡ plus (frames_counted s) 0
    by_refusal None = same ∙ mod-as_plus_0 _
    by_refusal (Some r) = mod-as_plus_0 _

after_command : (s : State) (c : Command) → removes_channel s (operator_command c) ≡ false → frames_counted (unless_refused (refusal s c) s c) ≡ plus (frames_counted s) 0
after_command s (Protect on) allowed = keeps s (Protect on) refl
after_command s (Validate mode) allowed = keeps s (Validate mode) refl
after_command s (Replay protect window) allowed = keeps s (Replay protect window) refl
after_command s (Tag form) allowed = keeps s (Tag form) refl
after_command s (Key key) allowed = keeps s (Key key) refl
after_command s (Retire key) allowed = keeps s (Retire key) refl
after_command s (TxSa an key next conf) allowed = keeps s (TxSa an key next conf) refl
after_command s (TxOn an) allowed = keeps s (TxOn an) refl
after_command s (TxOff an) allowed = keeps s (TxOff an) refl
after_command s (TxDel an) allowed = keeps s (TxDel an) refl
after_command s (RxSc sci) allowed = keeps s (RxSc sci) (ap (λ n. (packets_of s.counters + n) % 2 ^ 64) (sum_by_push _ s.rx_counters _ ∙ add-zero (channels_packets s.rx_counters)))
after_command s (RxScDel sci) allowed = by_refusal (refusal s (RxScDel sci)) allowed
  where
    by_refusal : (r : Option Refusal) → not (is_some r) ≡ false → frames_counted (unless_refused r s (RxScDel sci)) ≡ plus (frames_counted s) 0
    by_refusal None allowed' = cc
    by_refusal (Some r) allowed' = mod-as_plus_0 _
after_command s (RxSa sci an key ssci lowest) allowed =
    keeps s (RxSa sci an key ssci lowest) (ap (λ n. (packets_of s.counters + n) % 2 ^ 64) (channels_packets-at_channel (with_association an) (λ row. refl) sci s.rx_counters))
after_command s (RxOn sci an) allowed = keeps s (RxOn sci an) refl
after_command s (RxOff sci an) allowed = keeps s (RxOff sci an) refl
after_command s (RxLow sci an pn) allowed = keeps s (RxLow sci an pn) refl
after_command s (RxDel sci an) allowed =
    keeps s (RxDel sci an) (ap (λ n. (packets_of s.counters + n) % 2 ^ 64) (channels_packets-at_channel (without_association an) (λ row. refl) sci s.rx_counters))

-- ---- the law

pub command_adds : (s : State) (c : Command) → AddsFrames s (operator_command c)
command_adds s c allowed = after_command s c allowed

pub link_frame_adds : (s : State) (frame : List ℕ) → IsSound s → AddsFrames s (link_frame frame)
link_frame_adds s frame sound allowed = after_link_frame s sound frame (received_output frame (judgement_of s frame)) (frame_fault frame)

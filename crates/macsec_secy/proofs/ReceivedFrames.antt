-- The outcome of a link frame, and the receive SCs and counters after it, are those of the machine's step.
use Rattle.macsec_rx.specs.Judge.{rows_after}
use Rattle.macsec_secy.proofs.{
  Names.{◌≡◌, AreChannels, ArePartsOf, ChannelCounters, Channels, counted_at_place, counted_by, Counters, frame_fault},
  Names.{InstalledKey, IsSound, IsStep, judge_tagged, Judgement, length, link_frame, List, Mode, MpduParts, None},
  Names.{octets_counted, option_map, Outcome, packet_counted, place_of, reading, refl, rx_options, RxOptions, State},
  Names.{step, subst, sym, tagged, with_received, ℕ},
  JudgedBy.judged_by,
  StaysSound.{TablesHold, after_link_frame},
  Steps.{Tells, tells_by},
}
use Rattle.macsec_secy.specs.Outcomes.{octets_delivered}

abbrev pub judged : State → MpduParts → Judgement
judged s p = judge_tagged (rx_options s) s.keys s.rx p

counters_after : (mode : Mode) (j : Judgement) (p : MpduParts) (c : Counters) → Tells mode j →
    counted_by mode j.verdict p.tag.e (length p.secure_data) c ≡ octets_counted j (tagged p) (packet_counted j c)
counters_after mode j p c tells = rw (tells.opened, tells.packet c) refl

state_left : (s : State) (frame : List ℕ) (p : MpduParts) → reading frame ≡ tagged p → frame_fault frame ≡ None →
    record s {
      rx = record s.rx { rows = rows_after s.options.window (judged s p) s.rx.rows };
      counters = counted_by s.options.mode (judged s p).verdict p.tag.e (length p.secure_data) s.counters;
      rx_counters = counted_at_place (judged s p).verdict (option_map place_of (judged s p).row) s.rx_counters;
    } ≡ (step s (link_frame frame)).1
state_left s frame p reads fits =
    let tells = tells_by s frame (tagged p) (judged s p) (judged_by s frame (tagged p)) in
    rw (fits, reads, counters_after s.options.mode (judged s p) p s.counters tells, sym (tells.channel s.rx_counters)) refl

-- the step of a tagged frame, by the parts of a state
pub tagged_step : (s : State) (frame room : List ℕ) (p : MpduParts) → reading frame ≡ tagged p → frame_fault frame ≡ None →
    (options : RxOptions) (keys : List InstalledKey) (before rx : Channels) (rows_before rows : List ChannelCounters) (old counters : Counters) (outcome : Outcome) →
    ArePartsOf s options keys before rows_before old →
    outcome.verdict ≡ (judge_tagged options keys before p).verdict →
    outcome.row ≡ option_map place_of (judge_tagged options keys before p).row →
    octets_delivered outcome.delivered frame room ≡ (judge_tagged options keys before p).delivered →
    rx ≡ record before { rows = rows_after options.window (judge_tagged options keys before p) before.rows } →
    counters ≡ counted_by options.mode outcome.verdict p.tag.e (length p.secure_data) old →
    rows ≡ counted_at_place outcome.verdict outcome.row rows_before →
    IsStep s frame room outcome rx rows counters
tagged_step s frame room p reads fits options keys before rx rows_before rows old counters outcome parts v r d channels c k = record {
  output = rw (fits, reads, v, r, d, parts.same_options, parts.same_keys, parts.same_channels) refl;
  after = rw (channels, c, k, v, r, parts.same_options, parts.same_keys, parts.same_channels, parts.same_rx_counters, parts.same_counters) (state_left s frame p reads fits);
}

-- an endpoint stays sound by this step
pub received_sound : (s : State) (frame room : List ℕ) (outcome : Outcome) (rx : Channels) (rows : List ChannelCounters) (counters : Counters) →
    IsSound s → IsStep s frame room outcome rx rows counters → AreChannels rx → IsSound (with_received s rx rows counters)
received_sound s frame room outcome rx rows counters sound stepped channels =
    let tables = subst TablesHold stepped.after (record { keys = sound.keys; tx = sound.tx; rx = channels }) in
    subst IsSound (sym stepped.after) (after_link_frame s frame tables sound)

-- Reception of a link frame: the verdict, and the state after it (IEEE 802.1AE, 10.6).
use Rattle.std.specs.Prelude.{ℕ, List, length, map, nat_le, Bool, if◌then◌else◌, Option, Some, None}
use Rattle.macsec_tag.specs.Table.{Reading, untagged, bad, tagged, reading}
use Rattle.macsec_rx.specs.declared.RxRow.{RxRow}
use Rattle.macsec_rx.specs.declared.Verdict.{Verdict}
use Rattle.macsec_rx.specs.declared.Verdict.TheVariants.{Untagged, NoTag, BadTag}
use Rattle.macsec_rx.specs.Judge.{Judgement, is_strict, judge_tagged, rows_after, without_row}
use Rattle.macsec_secy.specs.declared.counters.Counters.{Counters}
use Rattle.macsec_secy.specs.declared.counters.ChannelCounters.{ChannelCounters}
use Rattle.macsec_secy.specs.State.{State, rx_options}
use Rattle.macsec_secy.specs.Counting.{at_channel, count_in_channel, count_octets_received, count_packet}

-- steps 1 to 3 for an untagged frame or a bad tag, and the later steps for a tagged frame
abbrev pub judge_reading : State → List ℕ → Reading → Judgement
judge_reading s frame untagged =
    if is_strict s.options.mode then without_row 1 NoTag None else without_row 2 Untagged (Some frame)
judge_reading s frame (bad fault) = without_row 3 BadTag None
judge_reading s frame (tagged p) = judge_tagged (rx_options s) s.keys s.rx p

abbrev pub judgement_of : State → List ℕ → Judgement
judgement_of s frame = judge_reading s frame (reading frame)

-- if step 8 or a later one decides, the SC and its SA count the verdict, otherwise the endpoint does
abbrev pub is_counted_by_channel : Judgement → Bool
is_counted_by_channel j = nat_le 8 j.step

abbrev pub packet_counted : Judgement → Counters → Counters
packet_counted j c = if is_counted_by_channel j then c else count_packet j.verdict c

abbrev pub counted_at_row : Verdict → Option RxRow → List ChannelCounters → List ChannelCounters
counted_at_row verdict None rows = rows
counted_at_row verdict (Some row) rows = map (at_channel (count_in_channel verdict row.an) row.sci) rows

abbrev pub rx_packet_counted : Judgement → List ChannelCounters → List ChannelCounters
rx_packet_counted j rows = if is_counted_by_channel j then counted_at_row j.verdict j.row rows else rows

-- if step 11, 12 or 13 decides, the cipher was applied, and the octets of secure data are counted
abbrev pub data_counted : Reading → Counters → Counters
data_counted untagged c = c
data_counted (bad fault) c = c
data_counted (tagged p) c = count_octets_received p.tag.e (length p.secure_data) c

abbrev pub octets_counted : Judgement → Reading → Counters → Counters
octets_counted j r c = if nat_le 11 j.step then data_counted r c else c

-- the state after the frame: nothing else changes
abbrev pub state_after_receiving : State → List ℕ → Judgement → State
state_after_receiving s frame j = record s {
  rx = record s.rx { rows = rows_after s.options.window j s.rx.rows };
  counters = octets_counted j (reading frame) (packet_counted j s.counters);
  rx_counters = rx_packet_counted j s.rx_counters;
}

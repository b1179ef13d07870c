-- Counters have 64 bits, whatever they count.
use Rattle.std.specs.List.{All}
use Rattle.macsec_secy.{
  proofs.Names.{◌<◌, ◌^◌, All-map, All-weaker, AreRxCounters, arith, at_channel, bad, BadTag, Bool, ChannelCounters},
  proofs.Names.{count_in_channel, count_leaving, count_octets_received, count_packet, count_protected, count_verdict},
  proofs.Names.{counted_at_row, Counters, data_counted, Delayed, false, if◌then◌else◌, Invalid, is_counted_by_channel},
  proofs.Names.{Judgement, Late, Leaving, List, map, nat_le, no_rx_counters, no_sa, None, NoSa, NoSaError, NoTag},
  proofs.Names.{NotValid, octets_counted, Option, packet_counted, Passed, plain, plus, protected, Reading, Reserved},
  proofs.Names.{rx_packet_counted, RxCounters, RxRow, same_sci, Sci, Some, tagged, too_long, true, TxRow, Unchecked},
  proofs.Names.{Untagged, untagged, Verdict, ℕ},
  specs.{
    Counting.count_octets,
    Sound.{AreCounters, AreTxCounters},
    State.{no_counters, no_tx_counters},
    declared.counters.TxCounters.TxCounters,
  },
}

abbrev pub AreChannelCounters : List ChannelCounters → Type 0
AreChannelCounters rows = All (λ row. AreRxCounters row.counters) rows

zero : 0 < 2 ^ 64
zero = omega arith

pub none_counted : AreCounters no_counters
none_counted = assumption zero

pub no_tx_counted : AreTxCounters no_tx_counters
no_tx_counted = assumption zero

pub no_rx_counted : AreRxCounters no_rx_counters
no_rx_counted = assumption zero

wraps : (counter n : ℕ) → plus counter n < 2 ^ 64
wraps counter n = omega arith

-- ---- a client frame

pub after_leaving : (leaving : Leaving) (c : Counters) → AreCounters c → AreCounters (count_leaving leaving c)
after_leaving plain c are = assumption (wraps c.out_pkts_untagged 1)
after_leaving (protected key frame) c are = are
after_leaving no_sa c are = assumption (wraps c.out_pkts_no_sa 1)
after_leaving too_long c are = assumption (wraps c.out_pkts_too_long 1)

after_octets : (conf : Bool) (octets : ℕ) (c : TxCounters) → AreTxCounters c → AreTxCounters (count_octets conf octets c)
after_octets true octets c are = assumption (wraps c.out_pkts_encrypted 1, wraps c.out_octets_encrypted octets)
after_octets false octets c are = assumption (wraps c.out_pkts_protected 1, wraps c.out_octets_protected octets)

pub after_protected : (by : Option TxRow) (frame : List ℕ) (c : TxCounters) → AreTxCounters c → AreTxCounters (count_protected by frame c)
after_protected None frame c are = are
after_protected (Some row) frame c are = after_octets row.conf _ c are

-- ---- a link frame

after_packet : (verdict : Verdict) (c : Counters) → AreCounters c → AreCounters (count_packet verdict c)
after_packet Untagged c are = assumption (wraps c.in_pkts_untagged 1)
after_packet NoTag c are = assumption (wraps c.in_pkts_no_tag 1)
after_packet BadTag c are = assumption (wraps c.in_pkts_bad_tag 1)
after_packet Reserved c are = assumption (wraps c.in_pkts_reserved 1)
after_packet NoSa c are = assumption (wraps c.in_pkts_no_sa 1)
after_packet NoSaError c are = assumption (wraps c.in_pkts_no_sa_error 1)
after_packet Late c are = are
after_packet NotValid c are = are
after_packet Unchecked c are = are
after_packet Delayed c are = are
after_packet Invalid c are = are
after_packet Passed c are = are

after_octets_received : (e : Bool) (octets : ℕ) (c : Counters) → AreCounters c → AreCounters (count_octets_received e octets c)
after_octets_received true octets c are = assumption (wraps c.in_octets_decrypted octets)
after_octets_received false octets c are = assumption (wraps c.in_octets_validated octets)

after_data : (r : Reading) (c : Counters) → AreCounters c → AreCounters (data_counted r c)
after_data untagged c are = are
after_data (bad fault) c are = are
after_data (tagged p) c are = after_octets_received p.tag.e _ c are

either : {A : Type 0} (P : A → Type 0) (test : Bool) (a b : A) → P a → P b → P (if test then a else b)
either P true a b pa pb = pa
either P false a b pa pb = pb

pub after_reading : (j : Judgement) (r : Reading) (c : Counters) → AreCounters c → AreCounters (octets_counted j r (packet_counted j c))
after_reading j r c are =
    let packets = either AreCounters (is_counted_by_channel j) c (count_packet j.verdict c) are (after_packet j.verdict c are) in
    either AreCounters (nat_le 11 j.step) (data_counted r (packet_counted j c)) (packet_counted j c) (after_data r (packet_counted j c) packets) packets

after_channel : (verdict : Verdict) (c : RxCounters) → AreRxCounters c → AreRxCounters (count_verdict verdict c)
after_channel Passed c are = assumption (wraps c.in_pkts_ok 1)
after_channel Unchecked c are = assumption (wraps c.in_pkts_unchecked 1)
after_channel Delayed c are = assumption (wraps c.in_pkts_delayed 1)
after_channel Late c are = assumption (wraps c.in_pkts_late 1)
after_channel Invalid c are = assumption (wraps c.in_pkts_invalid 1)
after_channel NotValid c are = assumption (wraps c.in_pkts_not_valid 1)
after_channel Untagged c are = are
after_channel NoTag c are = are
after_channel BadTag c are = are
after_channel Reserved c are = are
after_channel NoSa c are = are
after_channel NoSaError c are = are

pub after_change : (change : ChannelCounters → ChannelCounters) →
    ((row : ChannelCounters) → AreRxCounters row.counters → AreRxCounters (change row).counters) → (sci : Sci) (rows : List ChannelCounters) →
    AreChannelCounters rows → AreChannelCounters (map (at_channel change sci) rows)
after_change change good sci rows are =
    All-map (λ (r : ChannelCounters). AreRxCounters r.counters) (at_channel change sci) rows
    (All-weaker (λ (r : ChannelCounters). AreRxCounters r.counters) (λ r. AreRxCounters (at_channel change sci r).counters)
    (λ r are'. either (λ (c : ChannelCounters). AreRxCounters c.counters) (same_sci r.sci sci) (change r) r (good r are') are') rows are)

after_counting : (verdict : Verdict) (row : Option RxRow) (rows : List ChannelCounters) → AreChannelCounters rows → AreChannelCounters (counted_at_row verdict row rows)
after_counting verdict None rows are = are
after_counting verdict (Some row) rows are = after_change (count_in_channel verdict row.an) (λ r are'. after_channel verdict r.counters are') row.sci rows are

pub after_judgement : (j : Judgement) (rows : List ChannelCounters) → AreChannelCounters rows → AreChannelCounters (rx_packet_counted j rows)
after_judgement j rows are =
    either AreChannelCounters (is_counted_by_channel j) (counted_at_row j.verdict j.row rows) rows (after_counting j.verdict j.row rows are) are

-- What holds of an endpoint at all times.
use Rattle.std.specs.Prelude.{◌≡◌, ◌<◌, ◌≤◌, ◌^◌, ℕ, List, length, map, is_some}
use Rattle.std.specs.List.{All}
use Rattle.macsec_tag.specs.declared.identifiers.Sci.{Sci}
use Rattle.macsec_suite.specs.KeyRows.{AreKeyRows, widest_beside}
use Rattle.macsec_tag.specs.Limits.{max_frame_len}
use Rattle.macsec_tx.specs.Commands.{HaveKeys}
use Rattle.macsec_tx.specs.Rows.{AreTxRows}
use Rattle.macsec_rx.specs.Limits.{max_association_count}
use Rattle.macsec_rx.specs.Commands.{HaveRxKeys, has_rx}
use Rattle.macsec_rx.specs.declared.RxRow.{RxRow}
use Rattle.macsec_rx.specs.Rows.{AreChannels}
use Rattle.macsec_commands.specs.Scis.{IsSci}
use Rattle.macsec_secy.specs.declared.counters.Counters.{Counters}
use Rattle.macsec_secy.specs.declared.counters.TxCounters.{TxCounters}
use Rattle.macsec_secy.specs.declared.counters.RxCounters.{RxCounters}
use Rattle.macsec_secy.specs.declared.counters.ChannelCounters.{ChannelCounters}
use Rattle.macsec_secy.specs.Agrees.{Agrees}
use Rattle.macsec_commands.specs.Limits.{min_max_frame}
use Rattle.macsec_secy.specs.Counting.{added, counters_at, sum_of}
use Rattle.macsec_secy.specs.State.{State}

abbrev pub sci_of_counters : ChannelCounters → Sci
sci_of_counters row = row.sci

-- the counters of an endpoint have 64 bits
pub record AreCounters (c : Counters) : Type 0 where
  pub in_pkts_untagged : c.in_pkts_untagged < 2 ^ 64
  pub in_pkts_no_tag : c.in_pkts_no_tag < 2 ^ 64
  pub in_pkts_bad_tag : c.in_pkts_bad_tag < 2 ^ 64
  pub in_pkts_reserved : c.in_pkts_reserved < 2 ^ 64
  pub in_pkts_no_sa : c.in_pkts_no_sa < 2 ^ 64
  pub in_pkts_no_sa_error : c.in_pkts_no_sa_error < 2 ^ 64
  pub in_octets_validated : c.in_octets_validated < 2 ^ 64
  pub in_octets_decrypted : c.in_octets_decrypted < 2 ^ 64
  pub out_pkts_untagged : c.out_pkts_untagged < 2 ^ 64
  pub out_pkts_too_long : c.out_pkts_too_long < 2 ^ 64
  pub out_pkts_no_sa : c.out_pkts_no_sa < 2 ^ 64

-- the counters of the transmit SC have 64 bits
pub record AreTxCounters (c : TxCounters) : Type 0 where
  pub out_pkts_protected : c.out_pkts_protected < 2 ^ 64
  pub out_pkts_encrypted : c.out_pkts_encrypted < 2 ^ 64
  pub out_octets_protected : c.out_octets_protected < 2 ^ 64
  pub out_octets_encrypted : c.out_octets_encrypted < 2 ^ 64

-- the counters of a receive SC or SA have 64 bits
pub record AreRxCounters (c : RxCounters) : Type 0 where
  pub in_pkts_ok : c.in_pkts_ok < 2 ^ 64
  pub in_pkts_unchecked : c.in_pkts_unchecked < 2 ^ 64
  pub in_pkts_delayed : c.in_pkts_delayed < 2 ^ 64
  pub in_pkts_late : c.in_pkts_late < 2 ^ 64
  pub in_pkts_invalid : c.in_pkts_invalid < 2 ^ 64
  pub in_pkts_not_valid : c.in_pkts_not_valid < 2 ^ 64

-- an SC has counters for an SA of a number exactly if that SA exists, and the SC's own counters are the sums over its
-- SAs and its deleted SAs
pub record AreOfAssociations (rows : List RxRow) (c : ChannelCounters) : Type 0 where
  pub count : length c.associations ≡ max_association_count
  pub there : (an : ℕ) → is_some (counters_at c.associations an) ≡ has_rx rows c.sci an
  pub sum : c.counters ≡ added (sum_of c.associations) c.removed

-- the configured largest frame is within its limits, and the endpoint's SCI has 8 octets; keys, transmit SAs and
-- receive SCs meet their bounds; the keys allow the replay window; the key of each SA is in the table; each SC has its
-- counters, in the order of the SCs; the counters have 64 bits; an SC's counters are the sums over its SAs; and the
-- rows of the tables agree with one another
pub record IsSound (s : State) : Type 0 where
  pub max_frame_least : min_max_frame ≤ s.config.max_frame
  pub max_frame_most : s.config.max_frame ≤ max_frame_len
  pub own_sci : IsSci s.config.sci
  pub keys : AreKeyRows s.keys
  pub tx : AreTxRows s.tx
  pub rx : AreChannels s.rx
  pub window : s.options.window ≤ widest_beside s.keys
  pub tx_keys : HaveKeys s.keys s.tx
  pub rx_keys : HaveRxKeys s.keys s.rx.rows
  pub channels : map sci_of_counters s.rx_counters ≡ s.rx.scis
  pub counters : AreCounters s.counters
  pub tx_counters : AreTxCounters s.tx_counters
  pub rx_counters : All (λ row. AreRxCounters row.counters) s.rx_counters
  pub associations : All (AreOfAssociations s.rx.rows) s.rx_counters
  pub agrees : Agrees s

-- the endpoint's state is sound, and its buffer holds the longest frame
pub record IsReady (s : State) (room_length : ℕ) : Type 0 where
  pub sound : IsSound s
  pub room : room_length ≡ max_frame_len

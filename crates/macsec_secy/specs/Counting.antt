-- Counters, of 64 bits: which of them a client frame raises, and which a link frame raises (IEEE 802.1AE, 10.7).
use Rattle.std.specs.Prelude.{ℕ, ◌+◌, ◌-◌, ◌%◌, ◌^◌, List, [], ◌∷◌, length, slice_index_or, slice_set, Bool, if◌then◌else◌, Option, Some, None, option_map, unwrap_or}
use Rattle.macsec_tx.specs.declared.TxRow.{TxRow}
use Rattle.macsec_tx.specs.Transmit.{Leaving, plain, protected, no_sa, too_long}
use Rattle.macsec_secy.specs.declared.counters.Counters.{Counters}
use Rattle.macsec_tag.specs.declared.identifiers.Sci.{Sci}
use Rattle.macsec_rx.specs.declared.Verdict.{Verdict}
use Rattle.macsec_rx.specs.declared.Verdict.TheVariants.{Untagged, NoTag, BadTag, Reserved, NoSa, NoSaError, Late, NotValid, Unchecked, Delayed, Invalid, Passed}
use Rattle.macsec_rx.specs.Channels.{same_sci}
use Rattle.macsec_secy.specs.declared.counters.TxCounters.{TxCounters}
use Rattle.macsec_secy.specs.declared.counters.RxCounters.{RxCounters}
use Rattle.macsec_secy.specs.declared.counters.ChannelCounters.{ChannelCounters}
use Rattle.macsec_secy.specs.State.{no_rx_counters}

abbrev pub plus : ℕ → ℕ → ℕ
plus counter n = (counter + n) % 2 ^ 64

-- the endpoint's counters after a client frame: one counts a frame that is sent unprotected or dropped; none counts a
-- frame that is sent protected
abbrev pub count_leaving : Leaving → Counters → Counters
count_leaving plain c = record c { out_pkts_untagged = plus c.out_pkts_untagged 1 }
count_leaving (protected key frame) c = c
count_leaving no_sa c = record c { out_pkts_no_sa = plus c.out_pkts_no_sa 1 }
count_leaving too_long c = record c { out_pkts_too_long = plus c.out_pkts_too_long 1 }

-- the transmit SC's counters after a protected frame with this many octets of data, including those before the
-- confidentiality offset; `conf`: the SA encrypts
abbrev pub count_octets : Bool → ℕ → TxCounters → TxCounters
count_octets conf octets c =
    if conf
    then record c { out_pkts_encrypted = plus c.out_pkts_encrypted 1; out_octets_encrypted = plus c.out_octets_encrypted octets }
    else record c { out_pkts_protected = plus c.out_pkts_protected 1; out_octets_protected = plus c.out_octets_protected octets }

-- the transmit SC's counters after a client frame, with the SA that protects it, if one does; the data is the frame
-- without DA and SA (the addresses)
abbrev pub count_protected : Option TxRow → List ℕ → TxCounters → TxCounters
count_protected None frame c = c
count_protected (Some row) frame c = count_octets row.conf (length frame - 12) c

-- ---- received frames

-- the endpoint's counters after a frame with this verdict; from `Late` on, SCs count instead
abbrev pub count_packet : Verdict → Counters → Counters
count_packet Untagged c = record c { in_pkts_untagged = plus c.in_pkts_untagged 1 }
count_packet NoTag c = record c { in_pkts_no_tag = plus c.in_pkts_no_tag 1 }
count_packet BadTag c = record c { in_pkts_bad_tag = plus c.in_pkts_bad_tag 1 }
count_packet Reserved c = record c { in_pkts_reserved = plus c.in_pkts_reserved 1 }
count_packet NoSa c = record c { in_pkts_no_sa = plus c.in_pkts_no_sa 1 }
count_packet NoSaError c = record c { in_pkts_no_sa_error = plus c.in_pkts_no_sa_error 1 }
count_packet Late c = c
count_packet NotValid c = c
count_packet Unchecked c = c
count_packet Delayed c = c
count_packet Invalid c = c
count_packet Passed c = c

-- the counters of an SC or of an SA after a frame with this verdict
abbrev pub count_verdict : Verdict → RxCounters → RxCounters
count_verdict Passed c = record c { in_pkts_ok = plus c.in_pkts_ok 1 }
count_verdict Unchecked c = record c { in_pkts_unchecked = plus c.in_pkts_unchecked 1 }
count_verdict Delayed c = record c { in_pkts_delayed = plus c.in_pkts_delayed 1 }
count_verdict Late c = record c { in_pkts_late = plus c.in_pkts_late 1 }
count_verdict Invalid c = record c { in_pkts_invalid = plus c.in_pkts_invalid 1 }
count_verdict NotValid c = record c { in_pkts_not_valid = plus c.in_pkts_not_valid 1 }
count_verdict Untagged c = c
count_verdict NoTag c = c
count_verdict BadTag c = c
count_verdict Reserved c = c
count_verdict NoSa c = c
count_verdict NoSaError c = c

-- the counters of the SA with this number, if it exists
abbrev pub counters_at : List (Option RxCounters) → ℕ → Option RxCounters
counters_at associations an = slice_index_or associations an None

-- the SA with this number counts the verdict
abbrev pub count_in_association : Verdict → ℕ → List (Option RxCounters) → List (Option RxCounters)
count_in_association verdict an associations =
    slice_set associations an (option_map (count_verdict verdict) (counters_at associations an))

-- the SC and its SA with this number count the frame
abbrev pub count_in_channel : Verdict → ℕ → ChannelCounters → ChannelCounters
count_in_channel verdict an row = record row {
  counters = count_verdict verdict row.counters;
  associations = count_in_association verdict an row.associations;
}

-- changes the counters of the SC with this SCI
abbrev pub at_channel : (ChannelCounters → ChannelCounters) → Sci → ChannelCounters → ChannelCounters
at_channel change sci row = if same_sci row.sci sci then change row else row

-- the endpoint's counters of octets after the cipher was applied to this many
abbrev pub count_octets_received : Bool → ℕ → Counters → Counters
count_octets_received e octets c =
    if e then record c { in_octets_decrypted = plus c.in_octets_decrypted octets }
    else record c { in_octets_validated = plus c.in_octets_validated octets }

-- ---- receive SAs that are created and deleted

-- the sum of each counter
abbrev pub added : RxCounters → RxCounters → RxCounters
added a b = record {
  in_pkts_ok = plus a.in_pkts_ok b.in_pkts_ok;
  in_pkts_unchecked = plus a.in_pkts_unchecked b.in_pkts_unchecked;
  in_pkts_delayed = plus a.in_pkts_delayed b.in_pkts_delayed;
  in_pkts_late = plus a.in_pkts_late b.in_pkts_late;
  in_pkts_invalid = plus a.in_pkts_invalid b.in_pkts_invalid;
  in_pkts_not_valid = plus a.in_pkts_not_valid b.in_pkts_not_valid;
}

-- the sums over the SAs that exist
abbrev pub sum_of : List (Option RxCounters) → RxCounters
sum_of [] = no_rx_counters
sum_of (None ∷ associations) = sum_of associations
sum_of (Some counters ∷ associations) = added counters (sum_of associations)

-- a new SC has no SAs and has counted nothing
abbrev pub new_channel_counters : Sci → ChannelCounters
new_channel_counters sci = record {
  sci = sci;
  counters = no_rx_counters;
  associations = None ∷ None ∷ None ∷ None ∷ [];
  removed = no_rx_counters;
}

-- a new SA has counted nothing
abbrev pub with_association : ℕ → ChannelCounters → ChannelCounters
with_association an row = record row { associations = slice_set row.associations an (Some no_rx_counters) }

-- an SA is deleted, and its counters are added to those of the deleted ones
abbrev pub without_association : ℕ → ChannelCounters → ChannelCounters
without_association an row = record row {
  associations = slice_set row.associations an None;
  removed = added row.removed (unwrap_or (counters_at row.associations an) no_rx_counters);
}

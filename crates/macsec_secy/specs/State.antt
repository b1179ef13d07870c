-- The state of an endpoint (IEEE 802.1AE, 10.7).
use Rattle.std.specs.Prelude.{List, [], length, nat_lt, Bool, true}
use Rattle.macsec_suite.specs.KeyRows.{InstalledKey}
use Rattle.macsec_tx.specs.declared.TxRow.{TxRow}
use Rattle.macsec_tx.specs.declared.TxOptions.{TxOptions}
use Rattle.macsec_commands.specs.declared.config.EndConfig.{EndConfig}
use Rattle.macsec_commands.specs.declared.mode.Mode.TheVariants.{Strict}
use Rattle.macsec_rx.specs.declared.RxOptions.{RxOptions}
use Rattle.macsec_rx.specs.Channels.{Channels, no_channels}
use Rattle.macsec_tag.specs.declared.identifiers.Sci.{Sci}
use Rattle.macsec_secy.specs.declared.options.Options.{Options}
use Rattle.macsec_secy.specs.declared.counters.Counters.{Counters}
use Rattle.macsec_secy.specs.declared.counters.TxCounters.{TxCounters}
use Rattle.macsec_secy.specs.declared.counters.RxCounters.{RxCounters}
use Rattle.macsec_secy.specs.declared.counters.ChannelCounters.{ChannelCounters}

-- the configuration; the options; the keys, in order of installation; the transmit SAs, in order of creation; the
-- receive SCs (secure channels) with their SAs; the counters of the endpoint, of its transmit SC, and of each receive
-- SC with its SAs
pub record State : Type 0 where
  pub config : EndConfig
  pub options : Options
  pub keys : List InstalledKey
  pub tx : List TxRow
  pub rx : Channels
  pub counters : Counters
  pub tx_counters : TxCounters
  pub rx_counters : List ChannelCounters

abbrev pub no_counters : Counters
no_counters = record {
  in_pkts_untagged = 0;
  in_pkts_no_tag = 0;
  in_pkts_bad_tag = 0;
  in_pkts_reserved = 0;
  in_pkts_no_sa = 0;
  in_pkts_no_sa_error = 0;
  in_octets_validated = 0;
  in_octets_decrypted = 0;
  out_pkts_untagged = 0;
  out_pkts_too_long = 0;
  out_pkts_no_sa = 0;
}

abbrev pub no_tx_counters : TxCounters
no_tx_counters = record { out_pkts_protected = 0; out_pkts_encrypted = 0; out_octets_protected = 0; out_octets_encrypted = 0 }

abbrev pub no_rx_counters : RxCounters
no_rx_counters = record {
  in_pkts_ok = 0;
  in_pkts_unchecked = 0;
  in_pkts_delayed = 0;
  in_pkts_late = 0;
  in_pkts_invalid = 0;
  in_pkts_not_valid = 0;
}

-- the options at creation
abbrev pub first_options : EndConfig → Options
first_options config = record { protect = true; mode = Strict; replay = true; window = 0; form = config.form }

-- the state at creation
abbrev pub start : EndConfig → State
start config = record {
  config = config;
  options = first_options config;
  keys = [];
  tx = [];
  rx = no_channels;
  counters = no_counters;
  tx_counters = no_tx_counters;
  rx_counters = [];
}

-- there is more than one receive SC
abbrev pub has_many : List Sci → Bool
has_many scis = nat_lt 1 (length scis)

-- the options that transmission depends on
abbrev pub tx_options : State → TxOptions
tx_options s = record {
  protect = s.options.protect;
  form = s.options.form;
  sci = s.config.sci;
  max_frame = s.config.max_frame;
  many = has_many s.rx.scis;
}

-- the options that reception depends on
abbrev pub rx_options : State → RxOptions
rx_options s = record {
  mode = s.options.mode;
  replay = s.options.replay;
  window = s.options.window;
}

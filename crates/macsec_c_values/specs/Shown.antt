-- What the readers show, as C sees it.
use Rattle.std.specs.Prelude.{ℕ, replicate, ◌/◌, ◌%◌, ◌^◌, Option, Some, None, Ok, Err}
use Rattle.macsec_commands.specs.declared.form.TagForm.{TagForm}
use Rattle.macsec_commands.specs.declared.form.TagForm.TheVariants as form
use Rattle.macsec_tx.specs.declared.TxRow.{TxRow}
use Rattle.macsec_commands.specs.declared.mode.Mode.{Mode}
use Rattle.macsec_commands.specs.declared.mode.Mode.TheVariants.{Disabled, Check, Strict}
use Rattle.macsec_rx.specs.declared.RxRow.{RxRow}
use Rattle.macsec_secy.specs.declared.options.Options.{Options}
use Rattle.macsec_secy.specs.declared.counters.Counters.{Counters}
use Rattle.macsec_secy.specs.declared.counters.TxCounters.{TxCounters}
use Rattle.macsec_secy.specs.declared.counters.RxCounters.{RxCounters}
use Rattle.macsec_c_values.specs.declared.showing.OptionsShown.{OptionsShown}
use Rattle.macsec_c_values.specs.declared.showing.CountersShown.{CountersShown}
use Rattle.macsec_c_values.specs.declared.showing.TxCountersShown.{TxCountersShown}
use Rattle.macsec_c_values.specs.declared.showing.RxCountersShown.{RxCountersShown}
use Rattle.macsec_c_values.specs.declared.showing.TxRowShown.{TxRowShown}
use Rattle.macsec_c_values.specs.declared.showing.RxRowShown.{RxRowShown}
use Rattle.macsec_c_values.specs.Arguments.{Named}
use Rattle.macsec_c_values.specs.Statuses.{done_status, none_status, status_of_argument_fault}

-- the status of a reader that finds this
abbrev pub status_if : {A : Type 0} → Option A → ℕ
status_if None = none_status
status_if (Some x) = done_status

-- what `read` finds for a number, if the argument is one
abbrev pub found_at : {A : Type 0} → Named ℕ → (ℕ → Option A) → Option A
found_at (Err f) read = None
found_at (Ok n) read = read n

abbrev pub status_at : {A : Type 0} → Named ℕ → (ℕ → Option A) → ℕ
status_at (Err f) read = status_of_argument_fault f
status_at (Ok n) read = status_if (read n)

abbrev pub number_of_mode : Mode → ℕ
number_of_mode Disabled = 0
number_of_mode Check = 1
number_of_mode Strict = 2

abbrev pub number_of_form : TagForm → ℕ
number_of_form form.Auto = 0
number_of_form form.Sci = 1
number_of_form form.Es = 2
number_of_form form.Scb = 3

abbrev pub low_half : ℕ → ℕ
low_half n = n % 2 ^ 64

abbrev pub high_half : ℕ → ℕ
high_half n = n / 2 ^ 64

-- the reserved members of each struct are 0
abbrev pub options_shown : Options → OptionsShown
options_shown o = record {
  window = o.window;
  mode = number_of_mode o.mode;
  form = number_of_form o.form;
  protect = o.protect;
  replay = o.replay;
  reserved = replicate 5 0;
}

abbrev pub counters_shown : Counters → CountersShown
counters_shown c = record {
  in_pkts_untagged = c.in_pkts_untagged;
  in_pkts_no_tag = c.in_pkts_no_tag;
  in_pkts_bad_tag = c.in_pkts_bad_tag;
  in_pkts_reserved = c.in_pkts_reserved;
  in_pkts_no_sa = c.in_pkts_no_sa;
  in_pkts_no_sa_error = c.in_pkts_no_sa_error;
  in_octets_validated = c.in_octets_validated;
  in_octets_decrypted = c.in_octets_decrypted;
  out_pkts_untagged = c.out_pkts_untagged;
  out_pkts_too_long = c.out_pkts_too_long;
  out_pkts_no_sa = c.out_pkts_no_sa;
  reserved = replicate 5 0;
}

abbrev pub tx_counters_shown : TxCounters → TxCountersShown
tx_counters_shown c = record {
  out_pkts_protected = c.out_pkts_protected;
  out_pkts_encrypted = c.out_pkts_encrypted;
  out_octets_protected = c.out_octets_protected;
  out_octets_encrypted = c.out_octets_encrypted;
  reserved = replicate 4 0;
}

abbrev pub rx_counters_shown : RxCounters → RxCountersShown
rx_counters_shown c = record {
  in_pkts_ok = c.in_pkts_ok;
  in_pkts_unchecked = c.in_pkts_unchecked;
  in_pkts_delayed = c.in_pkts_delayed;
  in_pkts_late = c.in_pkts_late;
  in_pkts_invalid = c.in_pkts_invalid;
  in_pkts_not_valid = c.in_pkts_not_valid;
  reserved = replicate 10 0;
}

abbrev pub tx_row_shown : TxRow → TxRowShown
tx_row_shown row = record {
  next = low_half row.next;
  next_high = high_half row.next;
  key = row.key;
  conf = row.conf;
  on = row.on;
  reserved = replicate 5 0;
}

abbrev pub rx_row_shown : RxRow → RxRowShown
rx_row_shown row = record {
  next = low_half row.next;
  next_high = high_half row.next;
  lowest = low_half row.lowest;
  lowest_high = high_half row.lowest;
  ssci = row.ssci;
  key = row.key;
  on = row.on;
  reserved = replicate 3 0;
}

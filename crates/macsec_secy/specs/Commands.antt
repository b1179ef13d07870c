-- Management commands: what each does, and why it is refused, in the order of the tests (IEEE 802.1AE, 10.7).
use Rattle.std.specs.Prelude.{ℕ, List, [], ◌∷◌, ◌++◌, filter, map, nat_lt, Bool, true, false, not, ◌||◌, Option, Some, None}
use Rattle.macsec_suite.specs.KeyRows.{keys_with, keys_retiring, suite_of, widest_beside}
use Rattle.macsec_suite.specs.declared.refusal.Refusal.{Refusal}
use Rattle.macsec_suite.specs.declared.refusal.Refusal.TheVariants.{Window, SciForm}
use Rattle.macsec_suite.specs.Refusals.{RefusalLine, first_refusal, install_refusals, retire_refusals}
use Rattle.macsec_tx.specs.Commands.{tx_uses, tx_sa_refusals, with_tx_sa, tx_on_refusals, with_tx_on, tx_off_refusals, with_tx_off, without_tx}
use Rattle.macsec_rx.specs.Channels.{same_sci}
use Rattle.macsec_rx.specs.Commands.{channels_narrowed, rx_low_refusals, rx_row_refusals, rx_sa_refusals, rx_sc_del_refusals, rx_sc_refusals}
use Rattle.macsec_rx.specs.Commands.{rx_uses, with_channel, with_rx_low, with_rx_on, with_rx_sa, without_channel, without_rx}
use Rattle.macsec_commands.specs.declared.command.Command.{Command}
use Rattle.macsec_commands.specs.declared.command.Command.TheVariants.{Protect, Validate, Replay, Tag, Key, Retire, TxSa, TxOn, TxOff}
use Rattle.macsec_commands.specs.declared.command.Command.TheVariants.{TxDel, RxSc, RxScDel, RxSa, RxOn, RxOff, RxLow, RxDel}
use Rattle.macsec_commands.specs.Configs.{is_unfit}
use Rattle.macsec_secy.specs.State.{State}
use Rattle.macsec_secy.specs.Counting.{at_channel, new_channel_counters, with_association, without_association}

-- an SA uses the key
abbrev pub uses : State → ℕ → Bool
uses s key = tx_uses s.tx key || rx_uses s.rx.rows key

-- the refusals of a command, each with its condition
abbrev pub refusals : State → Command → List RefusalLine
refusals s (Protect on) = []
refusals s (Validate mode) = []
refusals s (Replay protect window) = (Window, nat_lt (widest_beside s.keys) window) ∷ []
refusals s (Tag form) = (SciForm, is_unfit form s.config.sci) ∷ []
refusals s (Key key) = install_refusals (suite_of s.config.suite key) s.options.window s.keys key
refusals s (Retire key) = retire_refusals s.keys key (uses s key)
refusals s (TxSa an key next conf) = tx_sa_refusals s.keys s.tx an key next
refusals s (TxOn an) = tx_on_refusals s.keys s.tx an
refusals s (TxOff an) = tx_off_refusals s.tx an
refusals s (TxDel an) = tx_off_refusals s.tx an
refusals s (RxSc sci) = rx_sc_refusals s.rx s.config.sci sci
refusals s (RxScDel sci) = rx_sc_del_refusals s.rx sci
refusals s (RxSa sci an key ssci lowest) = rx_sa_refusals s.keys s.rx sci an key ssci lowest
refusals s (RxOn sci an) = rx_row_refusals s.rx sci an
refusals s (RxOff sci an) = rx_row_refusals s.rx sci an
refusals s (RxLow sci an pn) = rx_low_refusals s.keys s.rx sci an pn
refusals s (RxDel sci an) = rx_row_refusals s.rx sci an

-- what a command does if it is not refused
abbrev pub effect : State → Command → State
effect s (Protect on) = record s { options = record s.options { protect = on } }
effect s (Validate mode) = record s { options = record s.options { mode = mode } }
effect s (Replay protect window) = record s {
  options = record s.options { replay = protect; window = window };
  rx = channels_narrowed s.rx window;
}
effect s (Tag form) = record s { options = record s.options { form = form } }
effect s (Key key) = record s { keys = keys_with (suite_of s.config.suite key) s.keys key }
effect s (Retire key) = record s { keys = keys_retiring s.keys key }
effect s (TxSa an key next conf) = record s { tx = with_tx_sa s.tx an key next conf }
effect s (TxOn an) = record s { tx = with_tx_on s.tx an }
effect s (TxOff an) = record s { tx = with_tx_off s.tx an }
effect s (TxDel an) = record s { tx = without_tx s.tx an }
effect s (RxSc sci) = record s {
  rx = with_channel s.rx sci;
  rx_counters = s.rx_counters ++ new_channel_counters sci ∷ [];
}
effect s (RxScDel sci) = record s {
  rx = without_channel s.rx sci;
  rx_counters = filter (λ row. not (same_sci row.sci sci)) s.rx_counters;
}
effect s (RxSa sci an key ssci lowest) = record s {
  rx = with_rx_sa s.rx sci an key ssci lowest;
  rx_counters = map (at_channel (with_association an) sci) s.rx_counters;
}
effect s (RxOn sci an) = record s { rx = with_rx_on s.rx sci an true }
effect s (RxOff sci an) = record s { rx = with_rx_on s.rx sci an false }
effect s (RxLow sci an pn) = record s { rx = with_rx_low s.rx sci an pn }
effect s (RxDel sci an) = record s {
  rx = without_rx s.rx sci an;
  rx_counters = map (at_channel (without_association an) sci) s.rx_counters;
}

-- why a command is refused, if it is
abbrev pub refusal : State → Command → Option Refusal
refusal s c = first_refusal (refusals s c)

-- the state after a command: unchanged if it is refused
abbrev pub unless_refused : Option Refusal → State → Command → State
unless_refused None s c = effect s c
unless_refused (Some r) s c = s

abbrev pub state_after_command : State → Command → State
state_after_command s c = unless_refused (refusal s c) s c

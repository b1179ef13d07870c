-- The command of a line as C sees it: a row whose `kind` says which command it is. The members that a kind does not use
-- are zero.
use Rattle.std.specs.Prelude.{◌≡◌, ◌<◌, ℕ, List, length, ◌++◌, replicate, nat_eq, if◌then◌else◌, Bool, true, false}
use Rattle.std.specs.Prelude.{Option, Some, None, Ok, Err}
use Rattle.macsec_aes.specs.declared.Key.{Key}
use Rattle.macsec_aes.specs.declared.Key.TheVariants.{K128, K256}
use Rattle.macsec_suite.specs.KeyNumbers.{max_key_count}
use Rattle.macsec_suite.specs.Suites.{number_of_suite}
use Rattle.macsec_suite.specs.declared.suite.Suite.{Suite}
use Rattle.macsec_suite.specs.declared.key_row.NewKey.{NewKey}
use Rattle.macsec_tag.specs.declared.identifiers.Sci.{Sci}
use Rattle.macsec_commands.specs.declared.command.Command.{Command}
use Rattle.macsec_commands.specs.declared.command.Command.TheVariants as by
use Rattle.macsec_commands.specs.declared.config.EndConfig.{EndConfig}
use Rattle.macsec_c_values.specs.declared.arguments.ArgumentFault.TheVariants as argument
use Rattle.macsec_c_values.specs.declared.commands.Sak.{Sak}
use Rattle.macsec_c_values.specs.declared.configs.Config.{Config}
use Rattle.macsec_c_values.specs.declared.rows.CommandKind.{CommandKind}
use Rattle.macsec_c_values.specs.declared.rows.CommandKind.TheVariants as kind
use Rattle.macsec_c_values.specs.declared.rows.CommandRow.{CommandRow}
use Rattle.macsec_c_values.specs.Arguments.{Named, an_of, form_of, key_number_of, mode_of, naming, naming_both, sci_of}
use Rattle.macsec_c_values.specs.Keys.{new_key_of}
use Rattle.macsec_c_values.specs.Shown.{number_of_form, number_of_mode}

-- ---- kinds

abbrev pub number_of_kind : CommandKind → ℕ
number_of_kind kind.None = 0
number_of_kind kind.Protect = 1
number_of_kind kind.Validate = 2
number_of_kind kind.Replay = 3
number_of_kind kind.Tag = 4
number_of_kind kind.Key = 5
number_of_kind kind.Retire = 6
number_of_kind kind.TxSa = 7
number_of_kind kind.TxOn = 8
number_of_kind kind.TxOff = 9
number_of_kind kind.TxDel = 10
number_of_kind kind.RxSc = 11
number_of_kind kind.RxScDel = 12
number_of_kind kind.RxSa = 13
number_of_kind kind.RxOn = 14
number_of_kind kind.RxOff = 15
number_of_kind kind.RxLow = 16
number_of_kind kind.RxDel = 17

abbrev pub kind_of : ℕ → Named CommandKind
kind_of n =
    if nat_eq n 0 then Ok kind.None
    else if nat_eq n 1 then Ok kind.Protect
    else if nat_eq n 2 then Ok kind.Validate
    else if nat_eq n 3 then Ok kind.Replay
    else if nat_eq n 4 then Ok kind.Tag
    else if nat_eq n 5 then Ok kind.Key
    else if nat_eq n 6 then Ok kind.Retire
    else if nat_eq n 7 then Ok kind.TxSa
    else if nat_eq n 8 then Ok kind.TxOn
    else if nat_eq n 9 then Ok kind.TxOff
    else if nat_eq n 10 then Ok kind.TxDel
    else if nat_eq n 11 then Ok kind.RxSc
    else if nat_eq n 12 then Ok kind.RxScDel
    else if nat_eq n 13 then Ok kind.RxSa
    else if nat_eq n 14 then Ok kind.RxOn
    else if nat_eq n 15 then Ok kind.RxOff
    else if nat_eq n 16 then Ok kind.RxLow
    else if nat_eq n 17 then Ok kind.RxDel
    else Err argument.Command

-- ---- options that are on or off

abbrev pub number_of_flag : Bool → ℕ
number_of_flag false = 0
number_of_flag true = 1

abbrev pub flag_of : ℕ → Named Bool
flag_of n = if nat_eq n 0 then Ok false else if nat_eq n 1 then Ok true else Err argument.Command

-- ---- the row of a command

-- the suite of a key; 0 for the endpoint's default
abbrev pub number_of_key_suite : Option Suite → ℕ
number_of_key_suite None = 0
number_of_key_suite (Some suite) = number_of_suite suite

-- a key in 32 octets, and its length
abbrev pub key_octets : Key → List ℕ × ℕ
key_octets (K128 octets) = (octets ++ replicate 16 0, 16)
key_octets (K256 octets) = (octets, 32)

abbrev pub sak_of : NewKey → Sak
sak_of k = record {
  bytes = (key_octets k.bytes).0;
  salt = k.salt;
  ssci = k.ssci;
  suite = number_of_key_suite k.suite;
  number = k.number;
  length = (key_octets k.bytes).1;
  offset = k.offset;
}

abbrev pub no_sak : Sak
no_sak =
    record { bytes = replicate 32 0; salt = replicate 12 0; ssci = 0; suite = 0; number = 0; length = 0; offset = 0 }

-- the row of no command: all of it is zero
abbrev pub no_row : CommandRow
no_row = record {
  sak = no_sak;
  pn = 0;
  sci = replicate 8 0;
  ssci = 0;
  kind = number_of_kind kind.None;
  choice = 0;
  key = 0;
  an = 0;
  flag = 0;
  reserved = replicate 5 0;
}

-- a row of this kind; the rows of an option, of a transmit SA, of a receive SC and of a receive SA
abbrev pub kind_row : CommandKind → CommandRow
kind_row k = record no_row { kind = number_of_kind k }

abbrev pub flag_row : CommandKind → Bool → ℕ → CommandRow
flag_row k flag pn = record no_row { kind = number_of_kind k; flag = number_of_flag flag; pn = pn }

abbrev pub choice_row : CommandKind → ℕ → CommandRow
choice_row k choice = record no_row { kind = number_of_kind k; choice = choice }

abbrev pub tx_row : CommandKind → ℕ → CommandRow
tx_row k an = record no_row { kind = number_of_kind k; an = an }

abbrev pub sc_row : CommandKind → Sci → CommandRow
sc_row k sci = record no_row { kind = number_of_kind k; sci = sci.0 }

abbrev pub rx_row : CommandKind → Sci → ℕ → CommandRow
rx_row k sci an = record no_row { kind = number_of_kind k; sci = sci.0; an = an }

abbrev pub command_row : Command → CommandRow
command_row (by.Protect on) = flag_row kind.Protect on 0
command_row (by.Validate mode) = choice_row kind.Validate (number_of_mode mode)
command_row (by.Replay protect window) = flag_row kind.Replay protect window
command_row (by.Tag form) = choice_row kind.Tag (number_of_form form)
command_row (by.Key key) = record no_row { kind = number_of_kind kind.Key; sak = sak_of key; key = key.number }
command_row (by.Retire n) = record no_row { kind = number_of_kind kind.Retire; key = n }
command_row (by.TxSa an key next conf) =
    record no_row { kind = number_of_kind kind.TxSa; an = an; key = key; pn = next; flag = number_of_flag conf }
command_row (by.TxOn an) = tx_row kind.TxOn an
command_row (by.TxOff an) = tx_row kind.TxOff an
command_row (by.TxDel an) = tx_row kind.TxDel an
command_row (by.RxSc sci) = sc_row kind.RxSc sci
command_row (by.RxScDel sci) = sc_row kind.RxScDel sci
command_row (by.RxSa sci an key ssci lowest) =
    record no_row { kind = number_of_kind kind.RxSa; sci = sci.0; an = an; key = key; ssci = ssci; pn = lowest }
command_row (by.RxOn sci an) = rx_row kind.RxOn sci an
command_row (by.RxOff sci an) = rx_row kind.RxOff sci an
command_row (by.RxLow sci an pn) = record no_row { kind = number_of_kind kind.RxLow; sci = sci.0; an = an; pn = pn }
command_row (by.RxDel sci an) = rx_row kind.RxDel sci an

-- the row of a line's command, or of a line that is skipped
abbrev pub row_of : Option Command → CommandRow
row_of None = no_row
row_of (Some c) = command_row c

-- ---- the commands of the code

-- a key has as many octets as its kind says
abbrev pub HasLength : Key → Type 0
HasLength (K128 octets) = length octets ≡ 16
HasLength (K256 octets) = length octets ≡ 32

-- the numbers of a command are in their ranges, and its key has its length, which the types of the code ensure
abbrev pub IsCommand : Command → Type 0
IsCommand (by.Key key) = (key.number < max_key_count) × HasLength key.bytes
IsCommand (by.Retire n) = n < max_key_count
IsCommand (by.TxSa an key next conf) = (an < 4) × (key < max_key_count)
IsCommand (by.TxOn an) = an < 4
IsCommand (by.TxOff an) = an < 4
IsCommand (by.TxDel an) = an < 4
IsCommand (by.RxSa sci an key ssci lowest) = (an < 4) × (key < max_key_count)
IsCommand (by.RxOn sci an) = an < 4
IsCommand (by.RxOff sci an) = an < 4
IsCommand (by.RxLow sci an pn) = an < 4
IsCommand (by.RxDel sci an) = an < 4
IsCommand other = Unit {0}

-- ---- the configuration of an `end` line

abbrev pub config_row : EndConfig → Config
config_row c =
    record { sci = c.sci.0; suite = number_of_suite c.suite; form = number_of_form c.form; max_frame = c.max_frame }

-- all of it is zero, and names no suite
abbrev pub no_config : Config
no_config = record { sci = replicate 8 0; suite = 0; form = 0; max_frame = 0 }

-- ---- the command of a row

-- the command that installs this key, if the row's `key` is its number
abbrev pub key_shown : ℕ → Named NewKey → Named (Option Command)
key_shown number (Ok key) = if nat_eq key.number number then Ok (Some (by.Key key)) else Err argument.Command
key_shown number (Err f) = Err f

-- the command that creates a transmit SA with this AN, key number and confidentiality, which are checked in this order
abbrev pub tx_sa_with : ℕ → Named ℕ → Named ℕ → Named Bool → Named (Option Command)
tx_sa_with next (Ok an) (Ok key) (Ok conf) = Ok (Some (by.TxSa an key next conf))
tx_sa_with next (Ok an) (Ok key) (Err f) = Err f
tx_sa_with next (Ok an) (Err f) conf = Err f
tx_sa_with next (Err f) key conf = Err f

abbrev pub command_as : CommandRow → CommandKind → Named (Option Command)
command_as r kind.None = Ok None
command_as r kind.Protect = naming (λ on. Some (by.Protect on)) (flag_of r.flag)
command_as r kind.Validate = naming (λ mode. Some (by.Validate mode)) (mode_of r.choice)
command_as r kind.Replay = naming (λ on. Some (by.Replay on r.pn)) (flag_of r.flag)
command_as r kind.Tag = naming (λ form. Some (by.Tag form)) (form_of r.choice)
command_as r kind.Key = key_shown r.key (new_key_of r.sak)
command_as r kind.Retire = naming (λ n. Some (by.Retire n)) (key_number_of r.key)
command_as r kind.TxSa = tx_sa_with r.pn (an_of r.an) (key_number_of r.key) (flag_of r.flag)
command_as r kind.TxOn = naming (λ n. Some (by.TxOn n)) (an_of r.an)
command_as r kind.TxOff = naming (λ n. Some (by.TxOff n)) (an_of r.an)
command_as r kind.TxDel = naming (λ n. Some (by.TxDel n)) (an_of r.an)
command_as r kind.RxSc = Ok (Some (by.RxSc (sci_of r.sci)))
command_as r kind.RxScDel = Ok (Some (by.RxScDel (sci_of r.sci)))
command_as r kind.RxSa =
    naming_both (λ n key. Some (by.RxSa (sci_of r.sci) n key r.ssci r.pn)) (an_of r.an) (key_number_of r.key)
command_as r kind.RxOn = naming (λ n. Some (by.RxOn (sci_of r.sci) n)) (an_of r.an)
command_as r kind.RxOff = naming (λ n. Some (by.RxOff (sci_of r.sci) n)) (an_of r.an)
command_as r kind.RxLow = naming (λ n. Some (by.RxLow (sci_of r.sci) n r.pn)) (an_of r.an)
command_as r kind.RxDel = naming (λ n. Some (by.RxDel (sci_of r.sci) n)) (an_of r.an)

abbrev pub command_of_kind : CommandRow → Named CommandKind → Named (Option Command)
command_of_kind r (Ok k) = command_as r k
command_of_kind r (Err f) = Err f

-- none for a row of no command; or the first argument that names nothing, the kind first
abbrev pub command_of_row : CommandRow → Named (Option Command)
command_of_row r = command_of_kind r (kind_of r.kind)

-- ---- a law

-- the row of a command means this command
abbrev pub MeansCommand : Command → Type 0
MeansCommand c = IsCommand c → command_of_row (row_of (Some c)) ≡ Ok (Some c)

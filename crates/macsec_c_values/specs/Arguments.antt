-- What the arguments of a caller in C name. An argument that names nothing is refused.
use Rattle.std.specs.Prelude.{ℕ, List, take, nat_lt, nat_eq, if◌then◌else◌, Option, Some, None, Result, Ok, Err}
use Rattle.macsec_aes.specs.declared.Key.{Key}
use Rattle.macsec_aes.specs.declared.Key.TheVariants.{K128, K256}
use Rattle.macsec_suite.specs.KeyNumbers.{max_key_count}
use Rattle.macsec_suite.specs.declared.suite.Suite.{Suite}
use Rattle.macsec_suite.specs.declared.suite.Suite.TheVariants.{Gcm128, Gcm256, Xpn128, Xpn256}
use Rattle.macsec_tag.specs.declared.identifiers.Sci.{Sci}
use Rattle.macsec_commands.specs.declared.form.TagForm.{TagForm}
use Rattle.macsec_commands.specs.declared.form.TagForm.TheVariants as form
use Rattle.macsec_commands.specs.declared.mode.Mode.{Mode}
use Rattle.macsec_commands.specs.declared.mode.Mode.TheVariants.{Disabled, Check, Strict}
use Rattle.macsec_c_values.specs.declared.arguments.ArgumentFault.{ArgumentFault}
use Rattle.macsec_c_values.specs.declared.arguments.ArgumentFault.TheVariants as argument

-- what an argument names, or the fault that it names nothing
abbrev pub Named : Type 0 → Type 0
Named A = Result A ArgumentFault

-- `make` of what one argument names
abbrev pub naming : {A B : Type 0} → (A → B) → Named A → Named B
naming make (Ok x) = Ok (make x)
naming make (Err f) = Err f

-- `make` of what two arguments name; the first is checked first
abbrev pub naming_both : {A B C : Type 0} → (A → B → C) → Named A → Named B → Named C
naming_both make (Ok x) (Ok y) = Ok (make x y)
naming_both make (Ok x) (Err f) = Err f
naming_both make (Err f) y = Err f

abbrev pub suite_of : ℕ → Named Suite
suite_of n =
    if nat_eq n 1 then Ok Gcm128
    else if nat_eq n 2 then Ok Gcm256
    else if nat_eq n 3 then Ok Xpn128
    else if nat_eq n 4 then Ok Xpn256
    else Err argument.Suite

-- the suite of a key; the number 0 is the endpoint's default
abbrev pub key_suite_of : ℕ → Named (Option Suite)
key_suite_of n = if nat_eq n 0 then Ok None else naming Some (suite_of n)

abbrev pub form_of : ℕ → Named TagForm
form_of n =
    if nat_eq n 0 then Ok form.Auto
    else if nat_eq n 1 then Ok form.Sci
    else if nat_eq n 2 then Ok form.Es
    else if nat_eq n 3 then Ok form.Scb
    else Err argument.Form

abbrev pub mode_of : ℕ → Named Mode
mode_of n =
    if nat_eq n 0 then Ok Disabled
    else if nat_eq n 1 then Ok Check
    else if nat_eq n 2 then Ok Strict
    else Err argument.Mode

-- an association number
abbrev pub an_of : ℕ → Named ℕ
an_of n = if nat_lt n 4 then Ok n else Err argument.An

-- a key number
abbrev pub key_number_of : ℕ → Named ℕ
key_number_of n = if nat_lt n max_key_count then Ok n else Err argument.KeyNumber

-- the first 16 octets, or all 32, are a key
abbrev pub key_of : List ℕ → ℕ → Named Key
key_of bytes length =
    if nat_eq length 16 then Ok (K128 (take 16 bytes))
    else if nat_eq length 32 then Ok (K256 bytes)
    else Err argument.KeyOctets

-- an SCI of eight octets
abbrev pub sci_of : List ℕ → Sci
sci_of octets = record { 0 = octets }

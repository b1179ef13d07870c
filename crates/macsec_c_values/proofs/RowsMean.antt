-- The row of a command means this command.
use Rattle.{
  std.proofs.Common.{◌≡◌, ℕ, ◌<◌, refl, ap, ap₂, ◌∙◌, Bool, true, false, Option, Some, None, Ok, Err, if◌then◌else◌},
  std.proofs.Common.{eq-eqb, lt-ltb, replicate},
  std.proofs.lemmas.List.take_at,
  macsec_aes.specs.declared.Key.{Key, TheVariants.{K128, K256}},
  macsec_suite.specs.{
    KeyNumbers.max_key_count,
    Suites.number_of_suite,
    declared.{key_row.NewKey.NewKey, suite.Suite.{Suite, TheVariants.{Gcm128, Gcm256, Xpn128, Xpn256}}},
  },
  macsec_commands.specs.declared.{
    command.Command.Command,
    config.EndConfig.EndConfig,
    form.TagForm.TagForm,
    mode.Mode.{Mode, TheVariants.{Disabled, Check, Strict}},
  },
  macsec_c_values.specs.{
    Arguments.{an_of, form_of, key_number_of, key_of, key_suite_of, mode_of, naming, naming_both, suite_of},
    Configs.{config_of, config_with},
    Keys.{key_with, new_key_of},
    Rows.{HasLength, MeansCommand, config_row, flag_of, key_octets, key_shown, number_of_flag, number_of_key_suite},
    Rows.{sak_of, tx_sa_with},
    Shown.{number_of_form, number_of_mode},
  },
}
use Rattle.macsec_commands.specs.declared.command.Command.TheVariants as by
use Rattle.macsec_commands.specs.declared.form.TagForm.TheVariants as form
use Rattle.macsec_c_values.specs.declared.arguments.ArgumentFault.TheVariants as argument

an_known : (n : ℕ) → n < 4 → an_of n ≡ Ok n
an_known n below = ap (λ b. if b then Ok n else Err argument.An) (lt-ltb n 4 below)

number_known : (n : ℕ) → n < max_key_count → key_number_of n ≡ Ok n
number_known n below = ap (λ b. if b then Ok n else Err argument.KeyNumber) (lt-ltb n max_key_count below)

flag_known : (on : Bool) → flag_of (number_of_flag on) ≡ Ok on
flag_known false = refl
flag_known true = refl

mode_known : (mode : Mode) → mode_of (number_of_mode mode) ≡ Ok mode
mode_known Disabled = refl
mode_known Check = refl
mode_known Strict = refl

form_known : (f : TagForm) → form_of (number_of_form f) ≡ Ok f
form_known form.Auto = refl
form_known form.Sci = refl
form_known form.Es = refl
form_known form.Scb = refl

suite_known : (suite : Option Suite) → key_suite_of (number_of_key_suite suite) ≡ Ok suite
suite_known None = refl
suite_known (Some Gcm128) = refl
suite_known (Some Gcm256) = refl
suite_known (Some Xpn128) = refl
suite_known (Some Xpn256) = refl

key_known : (key : Key) → HasLength key → key_of (key_octets key).0 (key_octets key).1 ≡ Ok key
key_known (K128 octets) long = ap (λ first. Ok (K128 first)) (take_at octets (replicate 16 0) 16 long)
key_known (K256 octets) long = refl

new_key_known : (k : NewKey) → k.number < max_key_count → HasLength k.bytes → new_key_of (sak_of k) ≡ Ok k
new_key_known k below long =
    let bytes = key_of (key_octets k.bytes).0 (key_octets k.bytes).1 in
    ap (λ s. key_with (sak_of k) s (key_number_of k.number) bytes) (suite_known k.suite)
    ∙ ap (λ n. key_with (sak_of k) (Ok k.suite) n bytes) (number_known k.number below)
    ∙ ap (key_with (sak_of k) (Ok k.suite) (Ok k.number)) (key_known k.bytes long)

-- the row of a key has the number of this key
key_means : (k : NewKey) → k.number < max_key_count → HasLength k.bytes →
    key_shown k.number (new_key_of (sak_of k)) ≡ Ok (Some (by.Key k))
key_means k below long =
    ap (key_shown k.number) (new_key_known k below long)
    ∙ ap (λ b. if b then Ok (Some (by.Key k)) else Err argument.Command) (eq-eqb k.number k.number refl)

tx_sa_means : (an key next : ℕ) (conf : Bool) → an < 4 → key < max_key_count →
    tx_sa_with next (an_of an) (key_number_of key) (flag_of (number_of_flag conf))
    ≡ Ok (Some (by.TxSa an key next conf))
tx_sa_means an key next conf an_below key_below =
    ap (λ n. tx_sa_with next n (key_number_of key) (flag_of (number_of_flag conf))) (an_known an an_below)
    ∙ ap (λ k. tx_sa_with next (Ok an) k (flag_of (number_of_flag conf))) (number_known key key_below)
    ∙ ap (tx_sa_with next (Ok an) (Ok key)) (flag_known conf)

pub row_means : (c : Command) → MeansCommand c
row_means (by.Protect on) given = ap (naming (λ b. Some (by.Protect b))) (flag_known on)
row_means (by.Validate mode) given = ap (naming (λ m. Some (by.Validate m))) (mode_known mode)
row_means (by.Replay protect window) given = ap (naming (λ b. Some (by.Replay b window))) (flag_known protect)
row_means (by.Tag f) given = ap (naming (λ m. Some (by.Tag m))) (form_known f)
row_means (by.Key key) given = key_means key given.0 given.1
row_means (by.Retire n) given = ap (naming (λ n. Some (by.Retire n))) (number_known n given)
row_means (by.TxSa an key next conf) given = tx_sa_means an key next conf given.0 given.1
row_means (by.TxOn an) given = ap (naming (λ n. Some (by.TxOn n))) (an_known an given)
row_means (by.TxOff an) given = ap (naming (λ n. Some (by.TxOff n))) (an_known an given)
row_means (by.TxDel an) given = ap (naming (λ n. Some (by.TxDel n))) (an_known an given)
row_means (by.RxSc sci) given = refl
row_means (by.RxScDel sci) given = refl
row_means (by.RxSa sci an key ssci lowest) given =
    ap₂ (naming_both (λ n k. Some (by.RxSa sci n k ssci lowest))) (an_known an given.0) (number_known key given.1)
row_means (by.RxOn sci an) given = ap (naming (λ n. Some (by.RxOn sci n))) (an_known an given)
row_means (by.RxOff sci an) given = ap (naming (λ n. Some (by.RxOff sci n))) (an_known an given)
row_means (by.RxLow sci an pn) given = ap (naming (λ n. Some (by.RxLow sci n pn))) (an_known an given)
row_means (by.RxDel sci an) given = ap (naming (λ n. Some (by.RxDel sci n))) (an_known an given)

one_suite_known : (suite : Suite) → suite_of (number_of_suite suite) ≡ Ok suite
one_suite_known Gcm128 = refl
one_suite_known Gcm256 = refl
one_suite_known Xpn128 = refl
one_suite_known Xpn256 = refl

-- the configuration as C sees it means this configuration
pub config_means : (end : EndConfig) → config_of (config_row end) ≡ Ok end
config_means end = ap₂ (naming_both (config_with (config_row end))) (one_suite_known end.suite) (form_known end.form)

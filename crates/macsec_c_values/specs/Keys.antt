-- The key that a caller in C gives.
use Rattle.std.specs.Prelude.{ℕ, Option, Ok, Err}
use Rattle.macsec_aes.specs.declared.Key.{Key}
use Rattle.macsec_suite.specs.declared.suite.Suite.{Suite}
use Rattle.macsec_suite.specs.declared.key_row.NewKey.{NewKey}
use Rattle.macsec_c_values.specs.declared.commands.Sak.{Sak}
use Rattle.macsec_c_values.specs.Arguments.{Named, key_number_of, key_of, key_suite_of}

-- the key with this suite, number and octets, which are checked in this order
abbrev pub key_with : Sak → Named (Option Suite) → Named ℕ → Named Key → Named NewKey
key_with k (Ok suite) (Ok number) (Ok bytes) =
    Ok (record { number = number; bytes = bytes; salt = k.salt; ssci = k.ssci; offset = k.offset; suite = suite })
key_with k (Ok suite) (Ok number) (Err f) = Err f
key_with k (Ok suite) (Err f) bytes = Err f
key_with k (Err f) number bytes = Err f

abbrev pub new_key_of : Sak → Named NewKey
new_key_of k = key_with k (key_suite_of k.suite) (key_number_of k.number) (key_of k.bytes k.length)

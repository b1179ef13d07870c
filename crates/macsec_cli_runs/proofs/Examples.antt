-- Worked command lines, and what they ask for.
use Rattle.{
  std.proofs.Common.{◌≡◌, [], ◌∷◌, codes, Some, None, refl},
  clap.proofs.OnLiterals.clap_on_literals,
  macsec_capture.specs.declared.Direction.TheVariants.{Protect, Validate},
  macsec_cli_runs.specs.Words.{asked, running, capturing},
}

standard_input : asked (codes "macsec" ∷ codes "run" ∷ codes "-" ∷ []) ≡ Some (running (codes "-"))
unfolding clap_on_literals
standard_input = refl

a_path : asked (codes "macsec" ∷ codes "run" ∷ codes "first.macsec" ∷ []) ≡ Some (running (codes "first.macsec"))
unfolding clap_on_literals
a_path = refl

a_path_behind_dashes : asked (codes "macsec" ∷ codes "run" ∷ codes "--" ∷ codes "-x" ∷ []) ≡ Some (running (codes "-x"))
unfolding clap_on_literals
a_path_behind_dashes = refl

protection : asked (codes "macsec" ∷ codes "protect" ∷ codes "c" ∷ codes "i" ∷ codes "o" ∷ []) ≡ Some (capturing Protect (codes "c") (codes "i") (codes "o"))
unfolding clap_on_literals
protection = refl

-- for a capture, `-` is the name of a file
validation : asked (codes "macsec" ∷ codes "validate" ∷ codes "-" ∷ codes "i" ∷ codes "o" ∷ []) ≡ Some (capturing Validate (codes "-") (codes "i") (codes "o"))
unfolding clap_on_literals
validation = refl

no_output : asked (codes "macsec" ∷ codes "protect" ∷ codes "c" ∷ codes "i" ∷ []) ≡ None
unfolding clap_on_literals
no_output = refl

a_name_too_many : asked (codes "macsec" ∷ codes "validate" ∷ codes "c" ∷ codes "i" ∷ codes "o" ∷ codes "p" ∷ []) ≡ None
unfolding clap_on_literals
a_name_too_many = refl

no_words : asked (codes "macsec" ∷ []) ≡ None
unfolding clap_on_literals
no_words = refl

no_script : asked (codes "macsec" ∷ codes "run" ∷ []) ≡ None
unfolding clap_on_literals
no_script = refl

two_scripts : asked (codes "macsec" ∷ codes "run" ∷ codes "a" ∷ codes "b" ∷ []) ≡ None
unfolding clap_on_literals
two_scripts = refl

a_flag : asked (codes "macsec" ∷ codes "run" ∷ codes "-x" ∷ []) ≡ None
unfolding clap_on_literals
a_flag = refl

another_word : asked (codes "macsec" ∷ codes "walk" ∷ codes "a" ∷ []) ≡ None
unfolding clap_on_literals
another_word = refl

help : asked (codes "macsec" ∷ codes "--help" ∷ []) ≡ None
unfolding clap_on_literals
help = refl

help_of_run : asked (codes "macsec" ∷ codes "run" ∷ codes "--help" ∷ []) ≡ None
unfolding clap_on_literals
help_of_run = refl

version : asked (codes "macsec" ∷ codes "--version" ∷ []) ≡ None
unfolding clap_on_literals
version = refl

help_word : asked (codes "macsec" ∷ codes "help" ∷ []) ≡ None
unfolding clap_on_literals
help_word = refl

-- What clap matches is what the arguments ask for.
use Rattle.{
  std.proofs.Common.{◌≡◌, ◌∙◌, ◌⊎◌, inl, inr, List, [], ◌∷◌, true, ap, refl, subst, sym, Option, Err},
  clap.proofs.OnLiterals.clap_on_literals,
  clap.specs.{
    Words.{App, HasKind, HasMatchesOf, IsAmong, Kinds, Text, fault_of, is_simple, is_simple_and_free, kind_of},
    Words.{subcommand_of, subcommand_rows_of},
    declared.error.{Error.Error, kind.ErrorKind.{ErrorKind, TheVariants.OutOfMemory}},
    declared.parser.matches.ArgMatches.ArgMatches,
  },
  macsec_cli_runs.specs.Words.{Asked, Asks, asked, asked_in, kind_failure, macsec_app, without_fault},
}

pub is_free : is_simple_and_free macsec_app ≡ true
unfolding clap_on_literals
is_free = refl

-- an error of clap: out of memory, or a fault of the arguments
pub refused : (kind : ErrorKind) (kinds : Kinds) (asked : Option Asked) → (kind ≡ OutOfMemory) ⊎ IsAmong kind kinds →
    Asks (without_fault kinds asked) (Err (kind_failure kind))
refused OutOfMemory kinds asked why = refl
refused kind [] asked (inl memory) = absurd (cc)
refused kind [] asked (inr among) = absurd among
refused kind (k ∷ ks) asked why = refl

pub refused_words : (app : App) (words : List Text) (e : Error) → app ≡ macsec_app → HasKind (fault_of app words) e →
    Asks (asked words) (Err (kind_failure (kind_of e)))
refused_words app words e is why =
    let P : App → Type 0 = λ a. HasKind (fault_of a words) e in
    refused (kind_of e) (fault_of macsec_app words) (asked_in (subcommand_of macsec_app words)) (subst P is why)

are_simple : is_simple macsec_app ≡ true
unfolding clap_on_literals
are_simple = refl

-- the task in the matches of accepted arguments is what they ask for
pub taken_words : (app : App) (words : List Text) (m : ArgMatches) (found : Option Asked) → app ≡ macsec_app →
    (is_simple_and_free app ≡ true → fault_of app words ≡ []) → HasMatchesOf app words m →
    found ≡ asked_in (subcommand_rows_of m) → asked words ≡ found
taken_words app words m found is faultless matches found_is =
    let P : App → Type 0 = λ a. is_simple_and_free a ≡ true → fault_of a words ≡ [] in
    let none : fault_of macsec_app words ≡ [] = subst P is faultless is_free in
    let Q : App → Type 0 = λ a. HasMatchesOf a words m in
    let rows : subcommand_rows_of m ≡ subcommand_of macsec_app words = (subst Q is matches are_simple).1 in
    let without : Kinds → Option Asked = λ kinds. without_fault kinds (asked_in (subcommand_of macsec_app words)) in
    ap without none ∙ (ap asked_in (sym rows) ∙ sym found_is)

-- The results of the program for its arguments, and how a result is reported.
use Rattle.std.specs.Prelude.{◌≡◌, ◌⊎◌, ℕ, List, codes, Option, IsSome, OnOk, Result, Ok, Err}
use Rattle.std.specs.Io.KnownBytes.{Appends}
use Rattle.std.specs.declared.io.ErrorKind.{ErrorKind}
use Rattle.std.specs.declared.io.ErrorKind.TheVariants.{OutOfMemory}
use Rattle.clap.specs.Words.{Text}
use Rattle.macsec_script_parser.specs.declared.faults.ScriptFault.TheVariants.{Memory}
use Rattle.macsec_cli_runs.specs.declared.failures.Failure.{Failure}
use Rattle.macsec_cli_runs.specs.declared.failures.Failure.TheVariants.{Script, Usage}
use Rattle.macsec_cli_runs.specs.Failures.{FailsAsOpening, told_status, told_text}
use Rattle.macsec_cli_runs.specs.Words.{FailsBy, asked}

-- the task of the arguments was carried out, or it failed, or `/` can't be opened
abbrev pub EndsBy : List Text → Result (Unit {0}) Failure → Type 0
EndsBy words (Ok done) = IsSome (asked words)
EndsBy words (Err failure) = (FailsBy words failure) ⊎ (FailsAsOpening (codes "/") failure)

-- the failure of arguments that can't be read: memory ran out, or an argument is not UTF-8
abbrev pub unread_failure : ErrorKind → Failure
unread_failure OutOfMemory = Script Memory
unread_failure _ = Usage

abbrev pub IsUnread : ErrorKind → Result (Unit {0}) Failure → Type 0
IsUnread kind ended = ended ≡ Err (unread_failure kind)

-- a result for some arguments, or for arguments that can't be read
pub data EndsAtAll (ended : Result (Unit {0}) Failure) : Type 0 where
  by_words : (words : List Text) → EndsBy words ended → EndsAtAll ended
  unread : (kind : ErrorKind) → IsUnread kind ended → EndsAtAll ended

-- for one of these results, this is the exit status, and its text was written if the write succeeded
pub record IsTold {E : Type 0} (Ends : Result (Unit {0}) Failure → Type 0) (old new : Option (List ℕ)) (status : ℕ)
    (taken : Result (Unit {0}) E) : Type 0 where
  pub ended : Result (Unit {0}) Failure
  pub ends : Ends ended
  pub status_of_end : status ≡ told_status ended
  pub line : OnOk taken (Appends old new (told_text ended))

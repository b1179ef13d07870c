-- The reported result is the result for the arguments, or that they can't be read.
use Rattle.{
  std.proofs.Common.{ℕ, List, Option, Result, Ok, Err, IfErr, IfOk, map, string_bytes},
  std.specs.declared.io.ErrorKind.ErrorKind,
  clap.specs.Words.Text,
  macsec_cli_runs.specs.Ends.{EndsAtAll, EndsBy, IsTold, IsUnread, by_words, unread},
}
use Rattle.macsec_cli_runs.proofs.program.run_program.Goals as goal

told_at_all : {V F E : Type 0} (words_of : V → List Text) (kind_of : F → ErrorKind) (own : Result V F) (old new : Option (List ℕ))
    (status : ℕ) (taken : Result (Unit {0}) E) →
    IfOk own (λ words. IsTold (EndsBy (words_of words)) old new status taken) →
    IfErr own (λ error. IsTold (IsUnread (kind_of error)) old new status taken) → IsTold EndsAtAll old new status taken
told_at_all words_of kind_of (Ok words) old new status taken told_read told_unread = record {
  ended = told_read.ended;
  ends = by_words (words_of words) told_read.ends;
  status_of_end = told_read.status_of_end;
  line = told_read.line;
}
told_at_all words_of kind_of (Err error) old new status taken told_read told_unread = record {
  ended = told_unread.ended;
  ends = unread (kind_of error) told_unread.ends;
  status_of_end = told_unread.status_of_end;
  line = told_unread.line;
}

pub returns : goal.returns
returns g c = told_at_all (λ words. map string_bytes words.items) _ _ _ _ _ _ c.run_own.ensures.read c.run_own.ensures.unread

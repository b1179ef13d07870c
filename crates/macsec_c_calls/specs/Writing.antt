-- What is written of an answer to the caller's buffer.
use Rattle.std.specs.Prelude.{◌≡◌, ◌≤◌, ◌<◌, ℕ, List, ◌++◌, Bool, true, false, drop, length, max}
use Rattle.macsec_ahead.specs.Ahead.{Ahead}
use Rattle.macsec_script_parser.specs.declared.lines.LineFault.TheVariants as fault
use Rattle.macsec_c_calls.specs.declared.answering.Answered.{Answered}
use Rattle.macsec_c_calls.specs.declared.answering.Ending.{Ending}
use Rattle.macsec_c_calls.specs.declared.answering.Ending.TheVariants.{Done, Refused, Wrong, TooLong}
use Rattle.macsec_c_calls.specs.Answers.{Answer, answer_of}

-- the fewest octets of a buffer; they are enough for every answer except counters and packet numbers
abbrev pub min_answer_len : ℕ
min_answer_len = 64

-- the octets of a buffer that an answer needs
abbrev pub needed : Answer → ℕ
needed a = max min_answer_len (length a.text)

-- the endings of answers that are written: all except a buffer that is too small and too little memory
abbrev pub is_answered : Ending → Bool
is_answered TooLong = false
is_answered (Wrong fault.Memory) = false
is_answered other = true

-- the answer is written to the beginning of the buffer, and the endpoint is the one after it
pub record IsWritten (a : Answer) (before : List ℕ) (r : Answered) (out : List ℕ) (after : Ahead) : Type 0 where
  pub ending : r.ending ≡ a.ending
  pub len : r.length ≡ length a.text
  pub room : needed a ≤ length before
  pub octets : out ≡ a.text ++ drop (length a.text) before
  pub endpoint : after ≡ a.after

-- nothing is written and nothing changes; this length is returned
pub record IsUnwritten (e : Ahead) (before : List ℕ) (count : ℕ) (r : Answered) (out : List ℕ) (after : Ahead) : Type 0 where
  pub len : r.length ≡ count
  pub octets : out ≡ before
  pub endpoint : after ≡ e

-- the answer needs more octets than the buffer has, and their number is returned
pub record IsTooLong (e : Ahead) (a : Answer) (before : List ℕ) (r : Answered) (out : List ℕ) (after : Ahead) : Type 0 where
  pub room : length before < needed a
  pub unwritten : IsUnwritten e before (needed a) r out after

-- an answer is written, unless the buffer is too small or memory runs out
abbrev pub WritesAs : Ending → Ahead → Answer → List ℕ → Answered → List ℕ → Ahead → Type 0
WritesAs Done e a before r out after = IsWritten a before r out after
WritesAs (Refused refusal) e a before r out after = IsWritten a before r out after
WritesAs (Wrong fault.Memory) e a before r out after = IsUnwritten e before 0 r out after
WritesAs (Wrong f) e a before r out after = IsWritten a before r out after
WritesAs TooLong e a before r out after = IsTooLong e a before r out after

abbrev pub Writes : Ahead → Answer → List ℕ → Answered → List ℕ → Ahead → Type 0
Writes e a before r out after = WritesAs r.ending e a before r out after

-- the answer to line n with this text
abbrev pub Answers : Ahead → ℕ → List ℕ → List ℕ → Answered → List ℕ → Ahead → Type 0
Answers e n text before r out after = Writes e (answer_of e n text) before r out after

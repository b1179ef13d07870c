-- Rows of which all are carried out, or none.
use Rattle.std.specs.Prelude.{◌≡◌, ◌⊎◌, ℕ, ◌+◌, List, [], ◌∷◌, ◌++◌, length, map, nat_eq, Bool, true, false, Option}
use Rattle.std.specs.Prelude.{Some, None, Ok, Err}
use Rattle.macsec_suite.specs.declared.key_row.NewKey.{NewKey}
use Rattle.macsec_suite.specs.declared.refusal.Refusal.{Refusal}
use Rattle.macsec_suite.specs.RefusalNumbers.{number_of_refusal}
use Rattle.macsec_commands.specs.declared.command.Command.{Command}
use Rattle.macsec_commands.specs.declared.fault.NewFault.TheVariants.{Memory}
use Rattle.macsec_ahead.specs.Ahead.{Ahead}
use Rattle.macsec_ahead.specs.Loading.{after_all, beginning_at, begins_of, first_refused, key_in, loaded}
use Rattle.macsec_c_values.specs.declared.arguments.ArgumentFault.{ArgumentFault}
use Rattle.macsec_c_values.specs.declared.rows.CommandRow.{CommandRow}
use Rattle.macsec_c_values.specs.Arguments.{Named}
use Rattle.macsec_c_values.specs.Rows.{command_of_row}
use Rattle.macsec_c_values.specs.Statuses.{done_status, space_status, status_of_argument_fault, status_of_new_fault}
use Rattle.macsec_c_calls.specs.GivenUp.{Call, after_calls, command, renewal}

-- the first row that means no command, by its place, the first of which is `i`; and why
abbrev pub fault_at : ℕ → Named (Option Command) → Option (ℕ × ArgumentFault) → Option (ℕ × ArgumentFault)
fault_at i (Ok c) later = later
fault_at i (Err f) later = Some (i, f)

abbrev pub first_fault : ℕ → List CommandRow → Option (ℕ × ArgumentFault)
first_fault i [] = None
first_fault i (r ∷ rs) = fault_at i (command_of_row r) (first_fault (i + 1) rs)

-- the commands that rows mean
abbrev pub named_or_none : Named (Option Command) → Option Command
named_or_none (Ok c) = c
named_or_none (Err f) = None

abbrev pub commands_of : List CommandRow → List (Option Command)
commands_of rows = map (λ r. named_or_none (command_of_row r)) rows

-- what a load answers: the status; the place of the row that it is about, or the number of rows; for each row where its
-- SA begins, if that is above its own packet number, or 0; and the endpoint
pub record LoadAnswer : Type 0 where
  pub status : ℕ
  pub place : ℕ
  pub begins : List ℕ
  pub after : Ahead

abbrev pub answer_of_commands : Ahead → List ℕ → List (Option Command) → Option (ℕ × Refusal) → LoadAnswer
answer_of_commands e begins cs None = record {
  status = done_status;
  place = length cs;
  begins = begins_of e cs;
  after
      = after_all e cs;
}
answer_of_commands e begins cs
    (Some at) = record { status = number_of_refusal at.1; place = at.0; begins = begins; after = e }

abbrev pub answer_of_rows : Ahead → List ℕ → List (Option Command) → Option (ℕ × ArgumentFault) → LoadAnswer
answer_of_rows e begins cs None = answer_of_commands e begins cs (first_refused 0 e cs)
answer_of_rows e begins cs
    (Some at) = record { status = status_of_argument_fault at.1; place = at.0; begins = begins; after = e }

-- there is space for a number of each row, or nothing is done
abbrev pub answer_in : Bool → Ahead → List CommandRow → List ℕ → LoadAnswer
answer_in false e rows begins = record { status = space_status; place = 0; begins = begins; after = e }
answer_in true e rows begins = answer_of_rows e begins (commands_of rows) (first_fault 0 rows)

abbrev pub load_answer : Ahead → List CommandRow → List ℕ → LoadAnswer
load_answer e rows begins = answer_in (nat_eq (length rows) (length begins)) e rows begins

-- or memory runs out, and then nothing changes
abbrev pub out_of_memory : Ahead → List ℕ → LoadAnswer
out_of_memory e begins = record { status = status_of_new_fault Memory; place = 0; begins = begins; after = e }

abbrev pub Loads : Ahead → List CommandRow → List ℕ → LoadAnswer → Type 0
Loads e rows begins it = (it ≡ load_answer e rows begins) ⊎ (it ≡ out_of_memory e begins)

-- ---- a load is a list of calls

-- a second call, if the SA of a refused command begins above its packet number
abbrev pub second_call : Command → Option ℕ → List Call
second_call c None = []
second_call c (Some n) = command (beginning_at n c) ∷ []

abbrev pub calls_with : Option NewKey → Command → Option ℕ → List Call
calls_with (Some key) c raised = renewal key ∷ []
calls_with None c raised = command c ∷ second_call c raised

abbrev pub calls_of : Ahead → Option Command → List Call
calls_of e None = []
calls_of e (Some c) = calls_with (key_in c) c (loaded e (Some c)).raised

abbrev pub calls_of_all : Ahead → List (Option Command) → List Call
calls_of_all e [] = []
calls_of_all e (c ∷ cs) = calls_of e c ++ calls_of_all (loaded e c).after cs

-- so all laws about calls are laws about loads
abbrev pub LoadIsCalls : Ahead → List (Option Command) → Type 0
LoadIsCalls e cs = after_all e cs ≡ after_calls e (calls_of_all e cs)

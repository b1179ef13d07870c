-- The contract of a script's run still holds after its text is flushed, and of some text if the reader's is not known.
use Rattle.{
  std.proofs.{
    Common.{◌≡◌, ◌≤◌, inl, inr, ℕ, List, [], append-nil, length, sym, subst, IfErr, MatchResult, OnOk, Option, Result},
    Common.{Ok, Err},
    KnownBytes.{Appends-kept, Keeps-trans},
    Transfers.starts_with_of_append,
  },
  std.specs.Io.KnownBytes.Keeps,
  macsec_script_parser.specs.declared.faults.ScriptFault.{ScriptFault, TheVariants.{Memory, Read, Write}},
  macsec_script.specs.{Promised.{IsPromised, IsPromisedBefore, IsPromisedUpTo}, Runs.{LeavesText, RunGives}},
  macsec_cli_runs.specs.SomeText.{IsPromisedThen, RunsSomeText},
}

abbrev Done : Type 0
Done = Result (Unit {0}) ScriptFault

-- the fault of the run, if it has one, else `Write` if the flush failed
abbrev Ends : {E : Type 0} → Done → Result (Unit {0}) E → Done → Type 0
Ends done flush answer = MatchResult done (λ _. MatchResult flush (λ _. answer ≡ Ok tt) (λ _. answer ≡ Err Write)) (λ fault. answer ≡ Err fault)

fault_kept : (script : List ℕ) (old mid new : Option (List ℕ)) → Keeps mid new → (fault : ScriptFault) → RunGives script old mid (Err fault) → RunGives script old new (Err fault)
fault_kept script old mid new keeps Memory gives = (gives.0, gives.1, Appends-kept old mid new gives.0 gives.2 keeps)
fault_kept script old mid new keeps Read gives = Keeps-trans old mid new gives keeps
fault_kept script old mid new keeps Write (whole, is, (front, begins, adds)) = (whole, is, (front, begins, Appends-kept old mid new front adds keeps))
fault_kept script old mid new keeps other gives = (gives.0, Keeps-trans old mid new gives.1 keeps)

pub flushed_text : {E : Type 0} (script : List ℕ) (old mid new : Option (List ℕ)) → Keeps mid new → (done : Done) (flush : Result (Unit {0}) E) (answer : Done) →
    Ends done flush answer → RunGives script old mid done → RunGives script old new answer
flushed_text script old mid new keeps (Ok done) (Ok flush) answer is gives =
    subst (RunGives script old new) (sym is) (gives.0, gives.1, Appends-kept old mid new gives.0 gives.2 keeps)
flushed_text script old mid new keeps (Ok done) (Err error) answer is (text, printed, adds) =
    subst (RunGives script old new) (sym is)
    (text, printed, (text, starts_with_of_append text text [] (sym (append-nil text)), Appends-kept old mid new text adds keeps))
flushed_text script old mid new keeps (Err fault) flush answer is gives =
    subst (RunGives script old new) (sym is) (fault_kept script old mid new keeps fault gives)

leaves_kept : (old mid new : Option (List ℕ)) → Keeps mid new → (fault : ScriptFault) → LeavesText old mid fault → LeavesText old new fault
leaves_kept old mid new keeps Memory leaves = tt
leaves_kept old mid new keeps Write leaves = tt
leaves_kept old mid new keeps other leaves = Keeps-trans old mid new leaves keeps

-- what was not written is not written by the flush either
pub flushed_unwritten : {E : Type 0} (old mid new : Option (List ℕ)) → Keeps mid new → (done : Done) (flush : Result (Unit {0}) E) (answer : Done) →
    Ends done flush answer → IfErr done (LeavesText old mid) → IfErr answer (LeavesText old new)
flushed_unwritten old mid new keeps (Ok done) (Ok flush) answer is leaves = subst (λ (a : Done). IfErr a (LeavesText old new)) (sym is) tt
flushed_unwritten old mid new keeps (Ok done) (Err error) answer is leaves = subst (λ (a : Done). IfErr a (LeavesText old new)) (sym is) tt
flushed_unwritten old mid new keeps (Err fault) flush answer is leaves =
    subst (λ (a : Done). IfErr a (LeavesText old new)) (sym is) (leaves_kept old mid new keeps fault leaves)

pub flushed_promised : {E : Type 0} (P : Type 0) (done : Done) (flush : Result (Unit {0}) E) (answer : Done) → Ends done flush answer → OnOk done P → OnOk answer P
flushed_promised P (Ok done) (Ok flush) answer is holds = subst (λ (a : Done). OnOk a P) (sym is) holds
flushed_promised P (Ok done) (Err error) answer is holds = subst (λ (a : Done). OnOk a P) (sym is) tt
flushed_promised P (Err fault) flush answer is holds = subst (λ (a : Done). OnOk a P) (sym is) tt

before_kept : (P : ScriptFault → List ℕ → Type 0) (old mid new : Option (List ℕ)) → Keeps mid new → (fault : ScriptFault) → IsPromisedBefore P old mid fault →
    IsPromisedBefore P old new fault
before_kept P old mid new keeps Memory it = (it.0, it.1, Appends-kept old mid new it.0 it.2 keeps)
before_kept P old mid new keeps Write it = (it.0, it.1, Appends-kept old mid new it.0 it.2 keeps)
before_kept P old mid new keeps other it = tt

then_kept : (script : List ℕ) (old mid new : Option (List ℕ)) → Keeps mid new → (fault : ScriptFault) → IsPromisedBefore (IsPromisedUpTo script) old mid fault →
    IsPromisedThen script old new fault
then_kept script old mid new keeps Write it = inr (before_kept (IsPromisedUpTo script) old mid new keeps Write it)
then_kept script old mid new keeps Memory it = before_kept (IsPromisedUpTo script) old mid new keeps Memory it
then_kept script old mid new keeps other it = tt

-- the promises of a run that ended early, or whose flush failed
pub flushed_then : {E : Type 0} (script : List ℕ) (old mid new : Option (List ℕ)) → Keeps mid new → (done : Done) (flush : Result (Unit {0}) E) (answer : Done) →
    Ends done flush answer → OnOk done (IsPromised script) → IfErr done (IsPromisedBefore (IsPromisedUpTo script) old mid) → IfErr answer (IsPromisedThen script old new)
flushed_then script old mid new keeps (Ok done) (Ok flush) answer is whole before = subst (λ (a : Done). IfErr a (IsPromisedThen script old new)) (sym is) tt
flushed_then script old mid new keeps (Ok done) (Err error) answer is whole before = subst (λ (a : Done). IfErr a (IsPromisedThen script old new)) (sym is) (inl whole)
flushed_then script old mid new keeps (Err fault) flush answer is whole before =
    subst (λ (a : Done). IfErr a (IsPromisedThen script old new)) (sym is) (then_kept script old mid new keeps fault before)

-- the run of the text that was read is the run of some text
pub of_text : (text lent : List ℕ) (old new : Option (List ℕ)) (answer : Done) → length text ≤ 1048576 → lent ≡ text →
    RunGives lent old new answer → OnOk answer (IsPromised lent) → IfErr answer (IsPromisedThen lent old new) → RunsSomeText old new answer
of_text text lent old new (Ok done) fits same gives promised before =
    (text, fits, (subst (λ t. RunGives t old new (Ok done)) same gives, subst IsPromised same promised))
of_text text lent old new (Err fault) fits same gives promised before =
    inr (text, fits, (subst (λ t. RunGives t old new (Err fault)) same gives, subst (λ t. IsPromisedThen t old new fault) same before))

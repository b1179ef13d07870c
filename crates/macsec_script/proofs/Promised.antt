-- The promises hold of a script's run if its lines were all carried out, of the lines before the one at which memory
-- runs out, and of the lines up to the one whose write fails.
use Rattle.std.proofs.{
  Common.{◌≡◌, ◌∙◌, ℕ, List, [], length, take, ap, inl, inr, refl, sym, subst, ◌≤◌, IfErr, IfOk, IfSome, OnOk, Option},
  Common.{Some, None, Result, Ok, Err},
  KnownBytes.Appends-nil,
}
use Rattle.std.specs.Io.{StartsWith}
use Rattle.macsec_commands.specs.declared.{config.EndConfig.EndConfig, event.Event.Event}
use Rattle.macsec_link.specs.{
  Beginnings.{AreSound, StaysSound},
  Promises.KeepsPromises,
  Sound.IsSound,
  World.{WorldState, new_world},
}
use Rattle.macsec_script_parser.specs.{
  Parts.ScriptParts,
  Readings.{IsReadFault, Parses},
  Scripts.script_of,
  declared.faults.ScriptFault.{ScriptFault, TheVariants.{Memory, Write}},
}
use Rattle.macsec_script.{
  proofs.Unwritten.carried_over,
  specs.Printed.{text_from, text_of},
  specs.Promised.{AnyPromisedUpTo, ArePromised, ArePromisedUpTo, IsPromised, IsPromisedBefore, IsPromisedUpTo},
  specs.Promised.{IsSoundUpTo, events_of, up_to},
}

-- ---- the lines

-- the promises hold of every list of events during which the world stays sound
abbrev pub SoundKeepPromises : Type 0
SoundKeepPromises = (a b : EndConfig) (events : List Event) → AreSound a b events → KeepsPromises a b events

-- the world of the checked ends
pub ends_made : {w : WorldState} {a b c d : EndConfig} → w ≡ new_world a b → a ≡ c → b ≡ d → w ≡ new_world c d
ends_made {b = b} {c = c} made first second = made ∙ ap (λ e. new_world e b) first ∙ ap (λ e. new_world c e) second

-- the lines after the two ends were carried out
pub lines_promised : SoundKeepPromises → (script : ScriptParts) (w : WorldState) → w ≡ new_world script.a script.b → IsSound w →
    (answer : Result (Unit {0}) ScriptFault) → OnOk answer (IsSound w → StaysSound w (events_of script.lines)) → OnOk answer (ArePromised script)
lines_promised law script w made sound (Ok done) stays =
    law script.a script.b (events_of script.lines) (subst (λ v. StaysSound v (events_of script.lines)) made (stays sound))
lines_promised law script w made sound (Err fault) stays = tt

-- the promises hold of the first lines
first_promised : SoundKeepPromises → (script : ScriptParts) (w : WorldState) → w ≡ new_world script.a script.b → (n : ℕ) →
    StaysSound w (events_of (take n script.lines)) → ArePromised (up_to n script)
first_promised law script w made n stays =
    law script.a script.b (events_of (take n script.lines)) (subst (λ v. StaysSound v (events_of (take n script.lines))) made stays)

-- what the first lines print
first_text : (script : ScriptParts) (w : WorldState) → w ≡ new_world script.a script.b → (n : ℕ) → text_of (up_to n script) ≡ text_from w (take n script.lines)
first_text script w made n = ap (λ v. text_from v (take n script.lines)) (sym made)

lines_up_to : SoundKeepPromises → (script : ScriptParts) (w after : WorldState) → w ≡ new_world script.a script.b → IsSound w → (f : ScriptFault) (text : List ℕ) →
    IsSoundUpTo w after script.lines f text → ArePromisedUpTo script f text
lines_up_to law script w after made sound Memory text it =
    inr (it.count, it.written ∙ sym (first_text script w made it.count), first_promised law script w made it.count (it.sounds sound))
lines_up_to law script w after made sound Write text it = (
  it.count,
  it.within,
  subst (λ whole. StartsWith text whole) (sym (first_text script w made it.count)) it.whole,
  subst (λ whole. StartsWith whole text) (sym (first_text script w made _)) it.front,
  first_promised law script w made _ (it.sounds sound),
)
lines_up_to law script w after made sound other text it = tt

before_one : (P Q : ScriptFault → List ℕ → Type 0) (old new : Option (List ℕ)) → ((f : ScriptFault) (text : List ℕ) → P f text → Q f text) → (f : ScriptFault) →
    IsPromisedBefore P old new f → IsPromisedBefore Q old new f
before_one P Q old new goes Memory it = (it.0, goes Memory it.0 it.1, it.2)
before_one P Q old new goes Write it = (it.0, goes Write it.0 it.1, it.2)
before_one P Q old new goes other it = tt

pub lines_before : SoundKeepPromises → (script : ScriptParts) (w after : WorldState) → w ≡ new_world script.a script.b → IsSound w → (old new : Option (List ℕ))
    (answer : Result (Unit {0}) ScriptFault) → IfErr answer (λ f. IsPromisedBefore (IsSoundUpTo w after script.lines) old new f) →
    IfErr answer (λ f. IsPromisedBefore (ArePromisedUpTo script) old new f)
lines_before law script w after made sound old new (Ok done) it = tt
lines_before law script w after made sound old new (Err f) it =
    before_one _ _ old new (lines_up_to law script w after made sound) f it

-- ---- the script

-- a script before anything of it is written
none_before : (answer : Result (Option ScriptParts) ScriptFault) → IfOk answer (λ it. AnyPromisedUpTo it Memory [])
none_before (Ok None) = refl
none_before (Ok (Some script)) = inl refl
none_before (Err fault) = tt

-- nothing is written before the script is parsed
pub nothing_before : (script : List ℕ) (old : Option (List ℕ)) (f : ScriptFault) → Parses (script_of script) (Err f) → IsPromisedBefore (IsPromisedUpTo script) old old f
nothing_before script old Memory parses = ([], none_before _, Appends-nil old)
nothing_before script old Write parses = absurd parses
nothing_before script old other parses = tt

nothing_of : (script : List ℕ) (old : Option (List ℕ)) (f : ScriptFault) → IsReadFault f → IsPromisedBefore (IsPromisedUpTo script) old old f
nothing_of script old Memory read = ([], none_before _, Appends-nil old)
nothing_of script old Write read = absurd read
nothing_of script old other read = tt

-- nothing is written before the script is read
pub nothing_read : (known old : Option (List ℕ)) (f : ScriptFault) → IsReadFault f → IfSome known (λ script. IsPromisedBefore (IsPromisedUpTo script) old old f)
nothing_read None old f read = tt
nothing_read (Some script) old f read = nothing_of script old f read

pub text_before : (text : List ℕ) (script : ScriptParts) → script_of text ≡ Ok (Some script) → (old new : Option (List ℕ)) →
    (answer : Result (Unit {0}) ScriptFault) → IfErr answer (λ f. IsPromisedBefore (ArePromisedUpTo script) old new f) →
    IfErr answer (λ f. IsPromisedBefore (IsPromisedUpTo text) old new f)
text_before text script parsed old new (Ok done) it = tt
text_before text script parsed old new (Err f) it =
    before_one _ _ old new
    (λ fault written held. subst (λ r. IfOk r (λ it. AnyPromisedUpTo it fault written)) (sym parsed) held) f it

pub before_over : (known : Option (List ℕ)) (text lent : List ℕ) → IfSome known (λ all. (text ≡ all) × (length all ≤ 1048576)) → lent ≡ text →
    (old new : Option (List ℕ)) (answer : Result (Unit {0}) ScriptFault) → IfErr answer (λ f. IsPromisedBefore (IsPromisedUpTo lent) old new f) →
    IfErr answer (λ f. IfSome known (λ script. IsPromisedBefore (IsPromisedUpTo script) old new f))
before_over known text lent read same old new (Ok done) it = tt
before_over known text lent read same old new (Err f) it = carried_over known text lent (λ script. IsPromisedBefore (IsPromisedUpTo script) old new f) read same it

-- the promises of a text, once it is parsed
promised_of : (text : List ℕ) (parsed : Option ScriptParts) → script_of text ≡ Ok parsed → IfSome parsed ArePromised → IsPromised text
promised_of text parsed same hold = subst (λ r. IfOk r (λ it. IfSome it ArePromised)) (sym same) hold

pub text_promised : (text : List ℕ) (script : ScriptParts) → script_of text ≡ Ok (Some script) →
    (answer : Result (Unit {0}) ScriptFault) → OnOk answer (ArePromised script) → OnOk answer (IsPromised text)
text_promised text script parsed (Ok done) hold = promised_of text _ parsed hold
text_promised text script parsed (Err fault) hold = tt

-- the script that was read, if what the reader had is known
pub promised_over : (known : Option (List ℕ)) (text lent : List ℕ) → IfSome known (λ all. (text ≡ all) × (length all ≤ 1048576)) → lent ≡ text →
    (answer : Result (Unit {0}) ScriptFault) → OnOk answer (IsPromised lent) → OnOk answer (IfSome known IsPromised)
promised_over known text lent read same (Ok done) hold = carried_over known text lent _ read same hold
promised_over known text lent read same (Err fault) hold = tt

-- Adding the lines of a text one by one gives what the definition gives for the whole text.
use Rattle.std.proofs.{
  Common.{◌≡◌, ℕ, ◌+◌, ◌<◌, List, ◌∷◌, drop, get_or, length, map, refl, sym, subst, ◌∙◌, ap, Option, Some, None},
  Common.{Result, Ok, Err},
  lemmas.List.{drop-map, drop_more},
}
use Rattle.std.specs.Borrow.{Bor}
use Rattle.macsec_script_parser.specs.{
  Kinds.{line_of, and_then},
  Readings.{Reads, Parses},
  Scripts.{add_line, add_lines, at_line},
  declared.{faults.ScriptFault.ScriptFault, lines.{Line.Line, LineFault.LineFault}},
}
use Rattle.macsec_script_parser.specs.declared.lines.LineFault.TheVariants as fault
use Rattle.macsec_script_parser.specs.declared.faults.ScriptFault.TheVariants as script

-- adds a line to what the lines before it made
abbrev pub Adds : Type 0 → Type 0
Adds X = X → ℕ → Line → Result X ScriptFault

-- what the first i lines made, with the lines that are left, makes the whole result
abbrev pub IsOnTheWay : {X : Type 0} → Adds X → X → X → ℕ → List (List ℕ) → Type 0
IsOnTheWay add first made i all = add_lines add made (i + 1) (drop i all) ≡ add_lines add first 1 all

abbrev seen : List (Bor (List ℕ)) → List (List ℕ)
seen lines = map (λ line. line.now) lines

first_left : (lines : List (Bor (List ℕ))) (i : ℕ) (d : Bor (List ℕ)) → i < length lines → drop i (seen lines) ≡ (get_or lines i d).now ∷ drop (i + 1) (seen lines)
first_left lines i d within =
    let v : Bor (List ℕ) → List ℕ = λ line. line.now in
    drop-map v i lines ∙ ap (map v) (drop_more lines i d within) ∙ sym (ap (λ more. (get_or lines i d).now ∷ more) (drop-map v (i + 1) lines))

-- the whole result, from the line at the index
from_line : {X : Type 0} (add : Adds X) (first made : X) (i : ℕ) (lines : List (Bor (List ℕ))) (d : Bor (List ℕ)) (r : Result (Option Line) LineFault) →
    i < length lines → IsOnTheWay add first made i (seen lines) → line_of (get_or lines i d).now ≡ r →
    add_lines add first 1 (seen lines) ≡ and_then (add_line add made (i + 1) r) (λ next. add_lines add next (i + 1 + 1) (drop (i + 1) (seen lines)))
from_line add first made i lines d r within way is =
    sym way ∙ ap (add_lines add made (i + 1)) (first_left lines i d within)
    ∙ ap (λ r. and_then (add_line add made (i + 1) r) (λ next. add_lines add next (i + 1 + 1) (drop (i + 1) (seen lines)))) is

pub on_after_skipped : {X : Type 0} (add : Adds X) (first made : X) (i : ℕ) (lines : List (Bor (List ℕ))) (d : Bor (List ℕ)) → i < length lines →
    IsOnTheWay add first made i (seen lines) → line_of (get_or lines i d).now ≡ Ok None → IsOnTheWay add first made (i + 1) (seen lines)
on_after_skipped add first made i lines d within way is = sym (from_line add first made i lines d (Ok None) within way is)

pub on_after_line : {X : Type 0} (add : Adds X) (first made next : X) (i : ℕ) (lines : List (Bor (List ℕ))) (d : Bor (List ℕ)) (line : Line) → i < length lines →
    IsOnTheWay add first made i (seen lines) → line_of (get_or lines i d).now ≡ Ok (Some line) → add made (i + 1) line ≡ Ok next →
    IsOnTheWay add first next (i + 1) (seen lines)
on_after_line add first made next i lines d line within way is adds =
    sym (from_line add first made i lines d (Ok (Some line)) within way is
    ∙ ap (λ r. and_then r (λ next. add_lines add next (i + 1 + 1) (drop (i + 1) (seen lines)))) adds)

-- ---- the end

-- the first fault is the fault of the whole text
faulty : {X Y : Type 0} (r : Result X ScriptFault) (finish : X → Result Y ScriptFault) (f : ScriptFault) → Parses r (Err f) → Parses (and_then r finish) (Err f)
faulty r finish script.Memory h = tt
faulty r finish script.Read h = h
faulty r finish script.Write h = h
faulty r finish f h = ap (λ r. and_then r finish) h

-- line i + 1 can't be added
pub stopped : {X Y : Type 0} (add : Adds X) (first made : X) (finish : X → Result Y ScriptFault) (i : ℕ) (lines : List (Bor (List ℕ))) (d : Bor (List ℕ)) (line : Line)
    (f : ScriptFault) → i < length lines → IsOnTheWay add first made i (seen lines) → line_of (get_or lines i d).now ≡ Ok (Some line) →
    Parses (add made (i + 1) line) (Err f) → Parses (and_then (add_lines add first 1 (seen lines)) finish) (Err f)
stopped add first made finish i lines d line f within way is h =
    subst (λ r. Parses (and_then r finish) (Err f)) (sym (from_line add first made i lines d (Ok (Some line)) within way is))
    (faulty (and_then (add made (i + 1) line) (λ next. add_lines add next (i + 1 + 1) (drop (i + 1) (seen lines)))) finish f
    (faulty (add made (i + 1) line) (λ next. add_lines add next (i + 1 + 1) (drop (i + 1) (seen lines))) f h))

line_fault : {X : Type 0} (add : Adds X) (made : X) (n : ℕ) (r : Result (Option Line) LineFault) (f : LineFault) → Reads r (Err f) →
    Parses (add_line add made n r) (Err (at_line n f))
line_fault add made n r fault.Memory h = tt
line_fault add made n r f h = ap (add_line add made n) h

-- line i + 1 has a fault
pub faulty_line : {X Y : Type 0} (add : Adds X) (first made : X) (finish : X → Result Y ScriptFault) (i : ℕ) (lines : List (Bor (List ℕ))) (d : Bor (List ℕ))
    (f : LineFault) → i < length lines → IsOnTheWay add first made i (seen lines) → Reads (line_of (get_or lines i d).now) (Err f) →
    Parses (and_then (add_lines add first 1 (seen lines)) finish) (Err (at_line (i + 1) f))
faulty_line add first made finish i lines d f within way h =
    let text = (get_or lines i d).now in
    subst (λ r. Parses (and_then r finish) (Err (at_line (i + 1) f))) (sym (from_line add first made i lines d (line_of text) within way refl))
    (faulty (and_then (add_line add made (i + 1) (line_of text)) (λ next. add_lines add next (i + 1 + 1) (drop (i + 1) (seen lines)))) finish (at_line (i + 1) f)
    (faulty (add_line add made (i + 1) (line_of text)) (λ next. add_lines add next (i + 1 + 1) (drop (i + 1) (seen lines))) (at_line (i + 1) f)
    (line_fault add made (i + 1) (line_of text) f h)))

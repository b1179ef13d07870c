-- Each line of a script is printed from the world after the events of the lines before it.
use Rattle.{
  std.proofs.Common.{◌≡◌, ℕ, List, [], ◌∷◌, ◌++◌, refl, sym, ◌∙◌, ap, append_assoc, append-nil},
  macsec_commands.specs.declared.event.Event.Event,
  macsec_link.specs.{Step.{world_after, world_step}, World.WorldState},
  macsec_script_parser.specs.{Parts.NumberedLine, declared.lines.Action.Action},
  macsec_script.specs.{Printed.{line_step, text_from}, Promised.{IsTextOfWorlds, event_of, events_of, text_after}},
}
use Rattle.macsec_script_parser.specs.declared.lines.Action.TheVariants as action

world_after-append : (w : WorldState) (es fs : List Event) → world_after w (es ++ fs) ≡ world_after (world_after w es) fs
world_after-append w [] fs = refl
world_after-append w (x ∷ es) fs = world_after-append (world_step w x).1 es fs

events_of-append : (xs ys : List NumberedLine) → events_of (xs ++ ys) ≡ events_of xs ++ events_of ys
events_of-append [] ys = refl
events_of-append ((n, said) ∷ xs) ys = ap (λ es. event_of said ++ es) (events_of-append xs ys) ∙ sym (append_assoc (event_of said) (events_of xs) (events_of ys))

-- the world after a line is the world after its event
world_of_line : (w : WorldState) (n : ℕ) (said : Action) → (line_step w n said).1 ≡ world_after w (event_of said)
world_of_line w n (action.Event event) = refl
world_of_line w n said = refl

text_from-append : (w : WorldState) (xs ys : List NumberedLine) → text_from w (xs ++ ys) ≡ text_from w xs ++ text_from (world_after w (events_of xs)) ys
text_from-append w [] ys = refl
text_from-append w ((n, said) ∷ xs) ys =
    let piece = (line_step w n said).0 in
    let after = (line_step w n said).1 in
    let world_is : world_after after (events_of xs) ≡ world_after w (event_of said ++ events_of xs) =
    ap (λ v. world_after v (events_of xs)) (world_of_line w n said) ∙ sym (world_after-append w (event_of said) (events_of xs)) in
    ap (λ t. piece ++ t) (text_from-append after xs ys)
    ∙ sym (append_assoc piece (text_from after xs) (text_from (world_after after (events_of xs)) ys))
    ∙ ap (λ v. (piece ++ text_from after xs) ++ text_from v ys) world_is

-- ---- one more line

pub events_with : (before : List NumberedLine) (entry : NumberedLine) → events_of (before ++ entry ∷ []) ≡ events_of before ++ event_of entry.1
events_with before entry = events_of-append before _ ∙ ap (λ es. events_of before ++ es) (append-nil (event_of entry.1))

pub world_with : (w : WorldState) (before : List NumberedLine) (entry : NumberedLine) →
    (line_step (world_after w (events_of before)) entry.0 entry.1).1 ≡ world_after w (events_of (before ++ entry ∷ []))
world_with w before entry =
    world_of_line _ entry.0 entry.1 ∙ sym (world_after-append w (events_of before) (event_of entry.1))
    ∙ ap (world_after w) (sym (events_with before entry))

pub text_with : (w : WorldState) (before : List NumberedLine) (entry : NumberedLine) → text_from w (before ++ entry ∷ []) ≡ text_from w before ++ text_after w before entry
text_with w before entry = text_from-append w before _ ∙ ap (λ piece. text_from w before ++ piece) (append-nil (text_after w before entry))

pub text_of_worlds : (w : WorldState) (before : List NumberedLine) (said : NumberedLine) (more : List NumberedLine) → IsTextOfWorlds w before said more
text_of_worlds w before said more =
    text_from-append w before _
    ∙ ap (λ v. text_from w before ++ (text_after w before said ++ text_from v more)) (world_with w before said)

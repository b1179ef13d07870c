-- The loop over the lines of a script: what was written, and the world after them.
use Rattle.{
  std.proofs.{
    Common.{◌≡◌, ℕ, ◌+◌, ◌<◌, List, [], ◌∷◌, ◌++◌, take, drop, get_or, length, refl, sym, ◌∙◌, ap, subst, append_assoc},
    Common.{append-nil, take-append-drop, false, is_err, MatchResult, OnErr, OnOk, Option, None, Result, Ok, Err},
    KnownBytes.{Appends-kept, Appends-nil, Appends-trans, starts_with_rest},
    Transfers.starts_with_of_append,
    lemmas.List.{drop_more, take_more},
  },
  std.specs.Io.{StartsWith, KnownBytes.Appends},
  macsec_commands.specs.declared.event.Event.Event,
  macsec_link.specs.{Beginnings.StaysSound, Sound.IsSound, Step.{world_after, world_step}, World.WorldState},
  macsec_script_parser.specs.{
    Parts.NumberedLine,
    declared.{faults.ScriptFault.{ScriptFault, TheVariants.{Memory, Write}}, lines.Action.Action},
  },
  macsec_writes.specs.Fronts.AppendsFront,
  macsec_script.proofs.TextOfWorlds.{events_with, text_of_worlds, text_with, world_with},
  macsec_script.specs.{
    Printed.{line_step, text_from},
    Promised.{IsPromisedBefore, IsSoundUpTo, LeavesAll, UnlessMemory, event_of, events_of, text_after},
    Runs.WritesText,
  },
}
use Rattle.macsec_script_parser.specs.declared.lines.Action.TheVariants as action

-- ---- one more line

-- the law of one more event
abbrev pub StepIsSound : Type 0
StepIsSound =
    (w : WorldState) (events : List Event) (event : Event) → StaysSound w events →
    IsSound (world_step (world_after w events) event).1 → StaysSound w (events ++ event ∷ [])

-- the lines were carried out: their text was written, and w is the world after their events. From a sound world on, w
-- is sound, and so was each world before it
pub record CarriedOut (start : WorldState) (before : List NumberedLine) (old mid : Option (List ℕ)) (w : WorldState) : Type 0 where
  pub written : Appends old mid (text_from start before)
  pub world : w ≡ world_after start (events_of before)
  pub sound : IsSound start → IsSound w
  pub stays : IsSound start → StaysSound start (events_of before)

pub none_yet : (start : WorldState) (old : Option (List ℕ)) → (IsSound start → StaysSound start []) → CarriedOut start [] old old start
none_yet start old stays = record { written = Appends-nil old; world = refl; sound = λ sound. sound; stays = stays }

stays_with : StepIsSound → (start : WorldState) (events : List Event) (n : ℕ) (said : Action) → IsSound (line_step (world_after start events) n said).1 →
    StaysSound start events → StaysSound start (events ++ event_of said)
stays_with law start events n (action.Event event) sound stays = law start events event stays sound
stays_with law start events n said sound stays = subst (StaysSound start) (sym (append-nil events)) stays

with_line : StepIsSound → (start : WorldState) (before : List NumberedLine) (entry : NumberedLine) (old mid new : Option (List ℕ)) (w after : WorldState) →
    Appends mid new (line_step w entry.0 entry.1).0 → after ≡ (line_step w entry.0 entry.1).1 → (IsSound w → IsSound after) →
    CarriedOut start before old mid w → CarriedOut start (before ++ entry ∷ []) old new after
with_line law start before entry old mid new w after adds same keeps so_far =
    let here = world_after start (events_of before) in
    let after_is : after ≡ (line_step here entry.0 entry.1).1 = same ∙ ap (λ v. (line_step v entry.0 entry.1).1) so_far.world in
    let adds_here : Appends mid new (text_after start before entry) = subst (λ v. Appends mid new (line_step v entry.0 entry.1).0) so_far.world adds in
    record {
      written =
          subst (Appends old new) (sym (text_with start before entry))
          (Appends-trans old mid new _ _ so_far.written adds_here);
      world = after_is ∙ world_with start before entry;
      sound = λ sound. keeps (so_far.sound sound);
      stays = λ sound. subst (StaysSound start) (sym (events_with before entry))
          (stays_with law start _ entry.0 entry.1 (subst IsSound after_is (keeps (so_far.sound sound))) (so_far.stays sound));
    }

-- the first i + 1 lines
take_next : (lines : List NumberedLine) (i : ℕ) (entry : NumberedLine) → entry ≡ get_or lines i entry → i < length lines → take (i + 1) lines ≡ take i lines ++ entry ∷ []
take_next lines i entry item within = take_more lines i entry within ∙ ap (λ x. take i lines ++ x ∷ []) (sym item)

-- the first i + 1 lines were carried out
pub one_more : StepIsSound → (start : WorldState) (lines : List NumberedLine) (i : ℕ) (entry : NumberedLine) (old mid new : Option (List ℕ)) (w after : WorldState) →
    entry ≡ get_or lines i entry → i < length lines → Appends mid new (line_step w entry.0 entry.1).0 → after ≡ (line_step w entry.0 entry.1).1 →
    (IsSound w → IsSound after) → CarriedOut start (take i lines) old mid w → CarriedOut start (take (i + 1) lines) old new after
one_more law start lines i entry old mid new w after item within adds same keeps so_far =
    subst (λ before. CarriedOut start before old new after) (sym (take_next lines i entry item within))
    (with_line law start _ entry old mid new w after adds same keeps so_far)

-- ---- printing a line fails

-- the lines before one of them, that one, and the lines after it
lines_at : (lines : List NumberedLine) (i : ℕ) (entry : NumberedLine) → entry ≡ get_or lines i entry → i < length lines → lines ≡ take i lines ++ entry ∷ drop (i + 1) lines
lines_at lines i entry item within =
    sym (take-append-drop i lines) ∙ ap (λ rest. take i lines ++ rest) (drop_more lines i entry within ∙ ap (λ e. e ∷ drop (i + 1) lines) (sym item))

-- a prefix of the line's text, and the rest of it
cut_piece : (start : WorldState) (before : List NumberedLine) (entry : NumberedLine) (old mid : Option (List ℕ)) (w : WorldState) (front : List ℕ) →
    CarriedOut start before old mid w → StartsWith (line_step w entry.0 entry.1).0 front →
    text_after start before entry ≡ front ++ drop (length front) (line_step w entry.0 entry.1).0
cut_piece start before entry old mid w front so_far begins =
    ap (λ v. (line_step v entry.0 entry.1).0) (sym so_far.world) ∙ starts_with_rest _ front begins

-- the lines before it were printed, and a prefix of its text
cut_at : (start : WorldState) (lines : List NumberedLine) (i : ℕ) (entry : NumberedLine) (old mid new : Option (List ℕ)) (w : WorldState) →
    entry ≡ get_or lines i entry → i < length lines → CarriedOut start (take i lines) old mid w →
    AppendsFront mid new (line_step w entry.0 entry.1).0 → AppendsFront old new (text_from start lines)
cut_at start lines i entry old mid new w item within so_far (front, begins, adds) =
    let before = text_from start (take i lines) in
    let after = text_from (world_after start (events_of (take i lines ++ entry ∷ []))) (drop (i + 1) lines) in
    let rest = drop (length front) (line_step w entry.0 entry.1).0 in
    let whole_is : text_from start lines ≡ (before ++ front) ++ (rest ++ after) =
    ap (text_from start) (lines_at lines i entry item within)
    ∙ text_of_worlds start (take i lines) entry (drop (i + 1) lines)
    ∙ ap (λ p. before ++ (p ++ after)) (cut_piece start _ entry old mid w front so_far begins)
    ∙ ap (λ more. before ++ more) (append_assoc front rest after) ∙ sym (append_assoc before front (rest ++ after)) in (
      before ++ front,
      starts_with_of_append _ _ _ whole_is,
      Appends-trans old mid new before front so_far.written adds,
    )

pub given_up : (start : WorldState) (lines : List NumberedLine) (i : ℕ) (entry : NumberedLine) (old mid new : Option (List ℕ)) (w : WorldState) →
    entry ≡ get_or lines i entry → i < length lines → CarriedOut start (take i lines) old mid w →
    (f : ScriptFault) → WritesText (line_step w entry.0 entry.1).0 mid new (Err f) → WritesText (text_from start lines) old new (Err f)
given_up start lines i entry old mid new w item within so_far Memory h = cut_at start lines i entry old mid new w item within so_far h
given_up start lines i entry old mid new w item within so_far Write h = cut_at start lines i entry old mid new w item within so_far h
given_up start lines i entry old mid new w item within so_far other h = h

-- a write fails in a line: the line was carried out, the lines before it were printed, and so was a prefix of its text
cut_into : StepIsSound → (start : WorldState) (lines : List NumberedLine) (i : ℕ) (entry : NumberedLine) (old mid new : Option (List ℕ)) (w after : WorldState) →
    entry ≡ get_or lines i entry → i < length lines → CarriedOut start (take i lines) old mid w → AppendsFront mid new (line_step w entry.0 entry.1).0 →
    after ≡ (line_step w entry.0 entry.1).1 → (IsSound w → IsSound after) → IsPromisedBefore (IsSoundUpTo start after lines) old new Write
cut_into law start lines i entry old mid new w after item within so_far (front, begins, adds) same keeps =
    let before = text_from start (take i lines) in
    let rest = drop (length front) (line_step w entry.0 entry.1).0 in
    let whole_is : text_from start (take _ lines) ≡ (before ++ front) ++ rest =
    ap (text_from start) (take_next lines i entry item within)
    ∙ text_with start (take i lines) entry
    ∙ ap (λ p. before ++ p) (cut_piece start _ entry old mid w front so_far begins)
    ∙ sym (append_assoc before front rest) in
    let unseen : CarriedOut start (take i lines) None None w = record { written = tt; world = so_far.world; sound = so_far.sound; stays = so_far.stays } in
    let next = one_more law start lines i entry None None None w after item within tt same keeps unseen in (
      before ++ front,
      record {
        count = i;
        within = within;
        whole = starts_with_of_append _ before front refl;
        front = starts_with_of_append _ _ rest whole_is;
        world = next.world;
        sounds = next.stays;
      },
      Appends-trans old mid new before front so_far.written adds,
    )

-- memory runs out at a line: the text of the lines before it was written; or a write fails in it
pub sound_before : StepIsSound → (start : WorldState) (lines : List NumberedLine) (i : ℕ) (entry : NumberedLine) (old mid new : Option (List ℕ)) (w after : WorldState) →
    entry ≡ get_or lines i entry → i < length lines → CarriedOut start (take i lines) old mid w → (f : ScriptFault) →
    WritesText (line_step w entry.0 entry.1).0 mid new (Err f) → LeavesAll mid new f → UnlessMemory (Err f) (after ≡ (line_step w entry.0 entry.1).1) →
    (IsSound w → IsSound after) → IsPromisedBefore (IsSoundUpTo start after lines) old new f
sound_before law start lines i entry old mid new w after item within so_far Memory writes kept same keeps =
    let text = text_from start (take i lines) in
    (text, record { count = i; written = refl; sounds = so_far.stays }, Appends-kept old mid new text so_far.written kept)
sound_before law start lines i entry old mid new w after item within so_far Write writes kept same keeps =
    cut_into law start lines i entry old mid new w after item within so_far writes same keeps
sound_before law start lines i entry old mid new w after item within so_far other writes kept same keeps = tt

-- ---- printing a line

-- a line whose text was composed was carried out, whatever its write returned
pub carried_out : (composed answer : Result (Unit {0}) ScriptFault) (Holds : Type 0) → is_err composed ≡ false → OnOk composed Holds → UnlessMemory answer Holds
carried_out (Err fault) answer Holds good holds = cc
carried_out (Ok done) (Err Memory) Holds good holds = tt
carried_out composed answer Holds good holds = holds

-- nothing was written
pub none_written : (text : Option (List ℕ)) (whole : List ℕ) → AppendsFront text text whole
none_written text whole = ([], refl, Appends-nil text)

-- what was written of a line's text
pub line_written : {E : Type 0} (whole room : List ℕ) (old new : Option (List ℕ)) (written : Result (Unit {0}) E) (answer : Result (Unit {0}) ScriptFault) →
    room ≡ whole → OnOk written (Appends old new room) → OnErr written (AppendsFront old new room) →
    MatchResult written (λ _. answer ≡ Ok tt) (λ _. answer ≡ Err Write) → WritesText whole old new answer
line_written whole room old new (Ok done) answer same adds front is = subst (WritesText whole old new) (sym is) (subst (Appends old new) same adds)
line_written whole room old new (Err error) answer same adds front is = subst (WritesText whole old new) (sym is) (subst (AppendsFront old new) same front)

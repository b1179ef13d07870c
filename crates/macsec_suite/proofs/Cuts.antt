-- Texts that are processed piece by piece.
use Rattle.std.proofs.{
  Common.{◌≡◌, ℕ, ◌+◌, ◌-◌, ◌*◌, ◌≤◌, List, [], ◌++◌, length, take, drop, min, refl, subst, ap, sym, ◌∙◌, arith},
  Common.{append_assoc, append-nil, drop-drop, take_all},
  Math.Seq.take-add,
  lemmas.{List.nil_from_length, Slice.{take-put_mid, drop-put_mid}},
}
use borrow.Rule.Slice.PartMut.{put_mid}

-- ---- texts that are read in pieces and do not change

-- a state has taken in what precedes the rest of a text
pub record AreTaken (Has : List ℕ → Type 0) (text rest : List ℕ) : Type 0 where
  pub done : List ℕ
  pub text_is : done ++ rest ≡ text
  pub taken : Has done

-- before the first piece the rest is the whole text
pub none_taken : (Has : List ℕ → Type 0) {text rest : List ℕ} → rest ≡ text → Has [] → AreTaken Has text rest
none_taken Has whole taken = record { done = []; text_is = whole; taken = taken }

-- after the next piece the state has taken it in too
pub one_more_taken : (Has After : List ℕ → Type 0) {text rest piece after : List ℕ} → rest ≡ piece ++ after
    → ((done : List ℕ) → Has done → After (done ++ piece)) → AreTaken Has text rest → AreTaken After text after
one_more_taken Has After {text} {rest} {piece} {after} cut takes are = record {
  done = are.done ++ piece;
  text_is = append_assoc are.done piece after ∙ ap (◌++◌ are.done) (sym cut) ∙ are.text_is;
  taken = takes are.done are.taken;
}

-- if nothing is left, the whole text was taken in
pub all_taken : (Has : List ℕ → Type 0) {text rest : List ℕ} → length rest ≡ 0 → AreTaken Has text rest → Has text
all_taken Has {text} {rest} none are =
    let nothing : [] ≡ rest = sym (nil_from_length rest none) in
    subst Has (sym (append-nil are.done) ∙ ap (◌++◌ are.done) nothing ∙ are.text_is) are.taken

-- ---- texts in pieces of 2048 octets; the last piece can be shorter

-- where the first i pieces end
abbrev pub end_of : List ℕ → ℕ → ℕ
end_of text i = min (length text) (2048 * i)

-- the first i pieces
abbrev pub pieces : List ℕ → ℕ → List ℕ
pieces text i = take (end_of text i) text

no_piece : (text : List ℕ) → pieces text 0 ≡ []
no_piece text =
    let none : end_of text 0 ≡ 0 = omega arith in
    ap (λ (n : ℕ). take n text) none

-- one more piece
one_more : (text : List ℕ) (i e : ℕ) → 2048 * i ≤ length text → e ≡ min (length text) (2048 * i + 2048)
    → pieces text i ++ take (e - 2048 * i) (drop (2048 * i) text) ≡ pieces text (i + 1)
one_more text i e before end =
    let a : ℕ = 2048 * i in
    let first : end_of text i ≡ a = omega (arith, before) in
    let next : a + (e - a) ≡ end_of text (i + 1) = omega (arith, before, end) in
    ap (λ (n : ℕ). take n text ++ take (e - a) (drop a text)) first ∙ sym (take-add a (e - a) text) ∙ ap (λ (n : ℕ). take n text) next

all_pieces : (text : List ℕ) (i : ℕ) → length text ≤ 2048 * i → pieces text i ≡ text
all_pieces text i behind = take_all (end_of text i) text (omega (arith, behind))

-- ---- texts whose pieces are replaced in place, one after another

-- the written piece follows the pieces before it
one_written : (text new : List ℕ) (written : List ℕ) (i e : ℕ) → length new ≡ length text → 2048 * i ≤ length text
    → e ≡ min (length text) (2048 * i + 2048) → length written ≡ e - 2048 * i
    → take (end_of text (i + 1)) (put_mid (2048 * i) (e - 2048 * i) new written) ≡ take (end_of text i) new ++ written
one_written text new written i e same before end long =
    let first : 2048 * i ≡ end_of text i = omega (arith, before) in
    take-put_mid (2048 * i) (e - 2048 * i) new written (end_of text (i + 1)) (omega (arith, before, end, long)) (omega (arith, same, before))
    ∙ ap (λ (n : ℕ). take n new ++ written) first

-- the octets after it do not change
rest_stays : (text new : List ℕ) (written : List ℕ) (i e : ℕ) → length new ≡ length text → 2048 * i ≤ length text
    → e ≡ min (length text) (2048 * i + 2048) → length written ≡ e - 2048 * i
    → drop (end_of text i) new ≡ drop (end_of text i) text
    → drop (end_of text (i + 1)) (put_mid (2048 * i) (e - 2048 * i) new written) ≡ drop (end_of text (i + 1)) text
rest_stays text new written i e same before end long held =
    let w : ℕ = end_of text (i + 1) - end_of text i in
    let next : end_of text i + w ≡ end_of text (i + 1) = omega (arith, before) in
    drop-put_mid (2048 * i) (e - 2048 * i) new written (end_of text (i + 1)) (omega (arith, before, end)) (omega (arith, same, before)) long
    ∙ ap (λ (n : ℕ). drop n new) (sym next) ∙ sym (drop-drop w (end_of text i) new) ∙ ap (drop w) held ∙ drop-drop w (end_of text i) text ∙ ap (λ (n : ℕ). drop n text) next

-- so the next piece is unchanged
next_piece : (text new : List ℕ) (i e : ℕ) → 2048 * i ≤ length text → drop (end_of text i) new ≡ drop (end_of text i) text
    → take (e - 2048 * i) (drop (2048 * i) new) ≡ take (e - 2048 * i) (drop (2048 * i) text)
next_piece text new i e before held =
    let first : end_of text i ≡ 2048 * i = omega (arith, before) in
    ap (take (e - 2048 * i)) (ap (λ (n : ℕ). drop n new) (sym first) ∙ held ∙ ap (λ (n : ℕ). drop n text) first)

-- a state has taken in the first i pieces, f's results for them have replaced them, and the rest is unchanged
pub record AreWritten (Has : List ℕ → Type 0) (f : List ℕ → List ℕ) (text new : List ℕ) (i : ℕ) : Type 0 where
  pub taken : Has (pieces text i)
  pub done : take (end_of text i) new ≡ f (pieces text i)
  pub rest : drop (end_of text i) new ≡ drop (end_of text i) text

pub none_written : (Has : List ℕ → Type 0) (f : List ℕ → List ℕ) (text : List ℕ) → f [] ≡ [] → Has [] → AreWritten Has f text text 0
none_written Has f text empty taken = record {
  taken = subst Has (sym (no_piece text)) taken;
  done = no_piece text ∙ sym (ap f (no_piece text) ∙ empty);
  rest = refl;
}

-- after one more piece the state has taken it in too, and f's result for it was written
pub one_more_written : (Has After : List ℕ → Type 0) (f : List ℕ → List ℕ) (text new written : List ℕ) (i e : ℕ)
    → length new ≡ length text → 2048 * i ≤ length text → e ≡ min (length text) (2048 * i + 2048) → length written ≡ e - 2048 * i
    → ((before : List ℕ) → Has before → let more = before ++ take (e - 2048 * i) (drop (2048 * i) new) in After more × (f more ≡ f before ++ written))
    → AreWritten Has f text new i → AreWritten After f text (put_mid (2048 * i) (e - 2048 * i) new written) (i + 1)
one_more_written Has After f text new written i e same before end long takes are =
    let more : pieces text i ++ take (e - 2048 * i) (drop (2048 * i) new) ≡ pieces text (i + 1) =
    ap (◌++◌ (pieces text i)) (next_piece text new i e before are.rest) ∙ one_more text i e before end in
    let it = takes (pieces text i) are.taken in
    record {
      taken = subst After more it.0;
      done = one_written text new written i e same before end long ∙ ap (λ (p : List ℕ). p ++ written) are.done ∙ sym it.1 ∙ ap f more;
      rest = rest_stays text new written i e same before end long are.rest;
    }

pub all_written : (Has : List ℕ → Type 0) (f : List ℕ → List ℕ) (text new : List ℕ) (i : ℕ) → length new ≡ length text → length text ≤ 2048 * i
    → AreWritten Has f text new i → Has text × (new ≡ f text)
all_written Has f text new i same behind are =
    let all : pieces text i ≡ text = all_pieces text i behind in
    (subst Has all are.taken, sym (take_all (end_of text i) new (omega (arith, same, behind))) ∙ are.done ∙ ap f all)

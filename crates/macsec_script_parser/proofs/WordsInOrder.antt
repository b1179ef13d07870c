-- A line of one kind has as many words as the kind, and they are read from left to right.
use Rattle.std.{
  proofs.Common.{◌≡◌, ℕ, ◌<◌, ◌≤◌, List, [], ◌∷◌, length, get_or, map, arith, sym, ap, ◌∙◌, subst, ◌==◌, cond, Some},
  proofs.Common.{None, Result, Ok, Err},
  specs.Borrow.Bor,
}
use Rattle.macsec_script_parser.specs.{
  Kinds.{Kind, and_then, read_kind, read_words},
  Readings.Reads,
  declared.lines.{Line.Line, LineFault.{LineFault, TheVariants.Memory}},
}

-- ---- the words of a line, by their count

pub at_one_word : (P : List (List ℕ) → Type 0) (words : List (Bor (List ℕ))) (d : Bor (List ℕ)) → 1 ≤ length words → length words < 2 →
    P ((get_or words 0 d).now ∷ []) → P (map (λ w. w.now) words)
at_one_word P [] default least below h = absurd (omega arith)
at_one_word P (a ∷ []) default least below h = h
at_one_word P (a ∷ b ∷ more) default least below h = absurd (omega arith)

pub at_two_words : (P : List (List ℕ) → Type 0) (words : List (Bor (List ℕ))) (d : Bor (List ℕ)) → 2 ≤ length words → length words < 3 →
    P ((get_or words 0 d).now ∷ (get_or words 1 d).now ∷ []) → P (map (λ w. w.now) words)
at_two_words P [] default least below h = absurd (omega arith)
at_two_words P (a ∷ []) default least below h = absurd (omega arith)
at_two_words P (a ∷ b ∷ []) default least below h = h
at_two_words P (a ∷ b ∷ c ∷ more) default least below h = absurd (omega arith)

pub at_three_words : (P : List (List ℕ) → Type 0) (words : List (Bor (List ℕ))) (d : Bor (List ℕ)) → 3 ≤ length words → length words < 4 →
    P ((get_or words 0 d).now ∷ (get_or words 1 d).now ∷ (get_or words 2 d).now ∷ []) → P (map (λ w. w.now) words)
at_three_words P [] default least below h = absurd (omega arith)
at_three_words P (a ∷ []) default least below h = absurd (omega arith)
at_three_words P (a ∷ b ∷ []) default least below h = absurd (omega arith)
at_three_words P (a ∷ b ∷ c ∷ []) default least below h = h
at_three_words P (a ∷ b ∷ c ∷ d ∷ more) default least below h = absurd (omega arith)

pub at_four_words : (P : List (List ℕ) → Type 0) (words : List (Bor (List ℕ))) (d : Bor (List ℕ)) → 4 ≤ length words → length words < 5 →
    P ((get_or words 0 d).now ∷ (get_or words 1 d).now ∷ (get_or words 2 d).now ∷ (get_or words 3 d).now ∷ []) → P (map (λ w. w.now) words)
at_four_words P [] default least below h = absurd (omega arith)
at_four_words P (a ∷ []) default least below h = absurd (omega arith)
at_four_words P (a ∷ b ∷ []) default least below h = absurd (omega arith)
at_four_words P (a ∷ b ∷ c ∷ []) default least below h = absurd (omega arith)
at_four_words P (a ∷ b ∷ c ∷ d ∷ []) default least below h = h
at_four_words P (a ∷ b ∷ c ∷ d ∷ e ∷ more) default least below h = absurd (omega arith)

pub at_five_words : (P : List (List ℕ) → Type 0) (words : List (Bor (List ℕ))) (d : Bor (List ℕ)) → 5 ≤ length words → length words < 6 →
    P ((get_or words 0 d).now ∷ (get_or words 1 d).now ∷ (get_or words 2 d).now ∷ (get_or words 3 d).now ∷ (get_or words 4 d).now ∷ []) → P (map (λ w. w.now) words)
at_five_words P [] default least below h = absurd (omega arith)
at_five_words P (a ∷ []) default least below h = absurd (omega arith)
at_five_words P (a ∷ b ∷ []) default least below h = absurd (omega arith)
at_five_words P (a ∷ b ∷ c ∷ []) default least below h = absurd (omega arith)
at_five_words P (a ∷ b ∷ c ∷ d ∷ []) default least below h = absurd (omega arith)
at_five_words P (a ∷ b ∷ c ∷ d ∷ e ∷ []) default least below h = h
at_five_words P (a ∷ b ∷ c ∷ d ∷ e ∷ f ∷ more) default least below h = absurd (omega arith)

pub at_six_words : (P : List (List ℕ) → Type 0) (words : List (Bor (List ℕ))) (d : Bor (List ℕ)) → 6 ≤ length words → length words < 7 →
    P ((get_or words 0 d).now ∷ (get_or words 1 d).now ∷ (get_or words 2 d).now ∷ (get_or words 3 d).now ∷ (get_or words 4 d).now ∷ (get_or words 5 d).now ∷ []) → P (map (λ w. w.now) words)
at_six_words P [] default least below h = absurd (omega arith)
at_six_words P (a ∷ []) default least below h = absurd (omega arith)
at_six_words P (a ∷ b ∷ []) default least below h = absurd (omega arith)
at_six_words P (a ∷ b ∷ c ∷ []) default least below h = absurd (omega arith)
at_six_words P (a ∷ b ∷ c ∷ d ∷ []) default least below h = absurd (omega arith)
at_six_words P (a ∷ b ∷ c ∷ d ∷ e ∷ []) default least below h = absurd (omega arith)
at_six_words P (a ∷ b ∷ c ∷ d ∷ e ∷ f ∷ []) default least below h = h
at_six_words P (a ∷ b ∷ c ∷ d ∷ e ∷ f ∷ g ∷ more) default least below h = absurd (omega arith)

-- ---- a line whose keyword has one kind

abbrev pub OfKind : ℕ → Kind → Result Line LineFault → List (List ℕ) → Type 0
OfKind n kind result words = result ≡ read_kind (cond (n == length words) (Some kind) None) words

pub of_one_word : (kind : Kind) {result : Result Line LineFault} (words : List (Bor (List ℕ))) (d : Bor (List ℕ)) → 1 ≤ length words → length words < 2 →
    result ≡ read_words kind.fields kind.makes ((get_or words 0 d).now ∷ []) → OfKind 1 kind result (map (λ w. w.now) words)
of_one_word kind words default least below h = at_one_word (OfKind 1 kind _) words default least below h

pub of_two_words : (kind : Kind) {result : Result Line LineFault} (words : List (Bor (List ℕ))) (d : Bor (List ℕ)) → 2 ≤ length words → length words < 3 →
    result ≡ read_words kind.fields kind.makes ((get_or words 0 d).now ∷ (get_or words 1 d).now ∷ []) → OfKind 2 kind result (map (λ w. w.now) words)
of_two_words kind words default least below h = at_two_words (OfKind 2 kind _) words default least below h

pub of_three_words : (kind : Kind) {result : Result Line LineFault} (words : List (Bor (List ℕ))) (d : Bor (List ℕ)) → 3 ≤ length words → length words < 4 →
    result ≡ read_words kind.fields kind.makes ((get_or words 0 d).now ∷ (get_or words 1 d).now ∷ (get_or words 2 d).now ∷ []) → OfKind 3 kind result (map (λ w. w.now) words)
of_three_words kind words default least below h = at_three_words (OfKind 3 kind _) words default least below h

pub of_four_words : (kind : Kind) {result : Result Line LineFault} (words : List (Bor (List ℕ))) (d : Bor (List ℕ)) → 4 ≤ length words → length words < 5 →
    result ≡ read_words kind.fields kind.makes ((get_or words 0 d).now ∷ (get_or words 1 d).now ∷ (get_or words 2 d).now ∷ (get_or words 3 d).now ∷ []) → OfKind 4 kind result (map (λ w. w.now) words)
of_four_words kind words default least below h = at_four_words (OfKind 4 kind _) words default least below h

pub of_five_words : (kind : Kind) {result : Result Line LineFault} (words : List (Bor (List ℕ))) (d : Bor (List ℕ)) → 5 ≤ length words → length words < 6 →
    result ≡ read_words kind.fields kind.makes ((get_or words 0 d).now ∷ (get_or words 1 d).now ∷ (get_or words 2 d).now ∷ (get_or words 3 d).now ∷ (get_or words 4 d).now ∷ []) → OfKind 5 kind result (map (λ w. w.now) words)
of_five_words kind words default least below h = at_five_words (OfKind 5 kind _) words default least below h

-- ---- a word, and then the others

pub taken : {X Y : Type 0} {r : Result X LineFault} {value : X} (next : X → Result Y LineFault) {result : Result Y LineFault} →
    r ≡ Ok value → result ≡ next value → result ≡ and_then r next
taken next read rest = rest ∙ sym (ap (λ r. and_then r next) read)

pub failed : {X Y : Type 0} {r : Result X LineFault} {fault : LineFault} (next : X → Result Y LineFault) →
    r ≡ Err fault → Err fault ≡ and_then r next
failed next read = sym (ap (λ r. and_then r next) read)

-- the line has the fault of the word, or both are `Memory`
at_fault : {X Y : Type 0} (r : Result X LineFault) (next : X → Result Y LineFault) (fault : LineFault) → Reads r (Err fault) → Reads (and_then r next) (Err fault)
at_fault r next Memory read = tt
at_fault r next fault read = ap (λ r. and_then r next) read

pub reads_fault : {X Y : Type 0} (r : Result X LineFault) (next : X → Result Y LineFault) (fault : LineFault) {result : Result Y LineFault} →
    result ≡ Err fault → Reads r (Err fault) → Reads (and_then r next) result
reads_fault r next fault same read = subst (Reads (and_then r next)) (sym same) (at_fault r next fault read)

-- One more happening: what it changes in the runs of an end.
use Rattle.macsec_restarts.proofs.Names.{[], ◌++◌, ◌∙◌, ◌∷◌, ◌≡◌, ◌⊎◌, A, ap, append-nil, B, begins, Bool, comes_in}
use Rattle.macsec_restarts.proofs.Names.{End, EndConfig, Events, false, Happening, if◌then◌else◌, inl, Inputs}
use Rattle.macsec_restarts.proofs.Names.{inputs_until, inr, IsMember, KeepingInput, List, refl, Run, runs_of, same_end}
use Rattle.macsec_restarts.proofs.Names.{sym, true, ℕ}

-- The members of two lists, one after the other.

pub in_front : {X : Type 0} (ps qs : List X) (x : X) → IsMember ps x → IsMember (ps ++ qs) x
in_front [] _ x there = absurd there
in_front (p ∷ _) _ x (inl here) = inl here
in_front (p ∷ ps) qs x (inr later) = inr (in_front ps qs x later)

pub at_end : {X : Type 0} (ps qs : List X) (x : X) → IsMember qs x → IsMember (ps ++ qs) x
at_end [] _ x there = there
at_end (p ∷ ps) qs x there = inr (at_end ps qs x there)

pub either_list : {X : Type 0} (xs ys : List X) (x : X) → IsMember (xs ++ ys) x → IsMember xs x ⊎ IsMember ys x
either_list [] _ x there = inr there
either_list (z ∷ _) _ x (inl here) = inl (inl here)
either_list (z ∷ xs) ys x (inr later) = by_side (either_list xs ys x later)
  where
    by_side : IsMember xs x ⊎ IsMember ys x → IsMember (z ∷ xs) x ⊎ IsMember ys x
    by_side (inl a) = inl (inr a)
    by_side (inr b) = inr b

-- One more happening: the runs of an end.

-- a run with one more input
abbrev pub with_input : KeepingInput → Run → Run
with_input input run = record run { inputs = run.inputs ++ input ∷ [] }

-- its last run has one more input
abbrev pub with_last : KeepingInput → List Run → List Run
with_last input [] = []
with_last input (run ∷ []) = with_input input run ∷ []
with_last input (run ∷ later ∷ more) = run ∷ with_last input (later ∷ more)

-- ---- the inputs until the next run

-- if no run begins later
until_open : (e f : End) (input : KeepingInput) (more : Events) → runs_of e more ≡ [] → same_end e f ≡ true →
    inputs_until e (more ++ comes_in f input ∷ []) ≡ inputs_until e more ++ input ∷ []
until_open e f _ [] none same = rw same
until_open e f input (begins g config journal ∷ more) none same =
    by_end (same_end e g) none (λ none'. until_open e f input more none' same)
  where
    by_end : (b : Bool) → (if b then record { journal = journal; config = config; inputs = inputs_until e more }
        ∷ runs_of e more else runs_of e more) ≡ [] →
        (runs_of e more ≡ [] → inputs_until e (more ++ comes_in f input ∷ []) ≡ inputs_until e more ++ input ∷ []) →
        (if b then [] else inputs_until e (more ++ comes_in f input ∷ [])) ≡
        (if b then [] else inputs_until e more) ++ input ∷ []
    by_end true none' later = cc
    by_end false none' later = later none'
until_open e f input (comes_in g i ∷ more) none same = by_end (same_end e g) (until_open e f input more none same)
  where
    by_end : (b : Bool) → inputs_until e (more ++ comes_in f input ∷ []) ≡ inputs_until e more ++ input ∷ [] →
        (if b then i ∷ inputs_until e (more ++ comes_in f input ∷ [])
        else inputs_until e (more ++ comes_in f input ∷ [])) ≡
        (if b then i ∷ inputs_until e more else inputs_until e more) ++ input ∷ []
    by_end true rest = ap (λ is. i ∷ is) rest
    by_end false rest = rest

-- if a run begins later
until_closed : (e : End) (h : Happening) (more : Events) {run : Run} {runs : List Run} →
    runs_of e more ≡ run ∷ runs → inputs_until e (more ++ h ∷ []) ≡ inputs_until e more
until_closed e h [] some = cc
until_closed e h (begins g config journal ∷ more) {run} {runs} some =
    by_end (same_end e g) some (λ some'. until_closed e h more some')
  where
    by_end : (b : Bool) → (if b then record { journal = journal; config = config; inputs = inputs_until e more }
        ∷ runs_of e more else runs_of e more) ≡ run ∷ runs →
        (runs_of e more ≡ run ∷ runs → inputs_until e (more ++ h ∷ []) ≡ inputs_until e more) →
        (if b then [] else inputs_until e (more ++ h ∷ [])) ≡ (if b then [] else inputs_until e more)
    by_end true _ _ = refl
    by_end false some' later = later some'
until_closed e h (comes_in g i ∷ more) some = rw (until_closed e h more some)

-- what happens at the other end
until_other : (e f : End) (input : KeepingInput) (more : Events) → same_end e f ≡ false →
    inputs_until e (more ++ comes_in f input ∷ []) ≡ inputs_until e more
until_other e f _ [] other = rw other
until_other e f input (begins g _ _ ∷ more) other = rw (until_other e f input more other)
until_other e f input (comes_in g i ∷ more) other = rw (until_other e f input more other)

either_way : (b : Bool) {is : Inputs} → (if b then is else is) ≡ is
either_way true = refl
either_way false = refl

-- a beginning
until_begins : (e f : End) (config : EndConfig) (journal : List ℕ) (more : Events) →
    inputs_until e (more ++ begins f config journal ∷ []) ≡ inputs_until e more
until_begins e f _ _ [] = either_way _
until_begins e f config journal (begins g _ _ ∷ more) = rw (until_begins e f config journal more)
until_begins e f config journal (comes_in g i ∷ more) = rw (until_begins e f config journal more)

-- ---- the runs

abbrev pub run_with : EndConfig → List ℕ → Inputs → Run
run_with config journal inputs = record { journal = journal; config = config; inputs = inputs }

pub runs_of-input : (e f : End) (input : KeepingInput) (before : Events) → same_end e f ≡ true →
    runs_of e (before ++ comes_in f input ∷ []) ≡ with_last input (runs_of e before)
runs_of-input e f _ [] _ = refl
runs_of-input e f input (comes_in g i ∷ more) same = runs_of-input e f input more same
runs_of-input e f input (begins g config journal ∷ more) same =
    by_end (same_end e g) (by_rest _ refl (runs_of-input e f input more same)) (runs_of-input e f input more same)
  where
    Pushed : Type 0
    Pushed = run_with config journal (inputs_until e (more ++ comes_in f input ∷ []))
        ∷ runs_of e (more ++ comes_in f input ∷ []) ≡
        with_last input (run_with config journal (inputs_until e more) ∷ runs_of e more)

    by_rest : (rest : List Run) → runs_of e more ≡ rest →
        runs_of e (more ++ comes_in f input ∷ []) ≡ with_last input (runs_of e more) →
        run_with config journal (inputs_until e (more ++ comes_in f input ∷ []))
        ∷ runs_of e (more ++ comes_in f input ∷ []) ≡
        with_last input (run_with config journal (inputs_until e more) ∷ runs_of e more)
    by_rest [] none later = ap (λ is. run_with config journal is ∷ runs_of e (more ++ comes_in f input ∷ []))
        (until_open e f input more none same)
        ∙ ap (λ rs. run_with config journal (inputs_until e more ++ input ∷ []) ∷ rs)
        (later ∙ ap (with_last input) none)
        ∙ ap (λ rs. with_last input (run_with config journal (inputs_until e more) ∷ rs)) (sym none)
    by_rest (_ ∷ _) some later =
        ap (λ is. run_with config journal is ∷ runs_of e (more ++ comes_in f input ∷ [])) (until_closed e _ more some)
        ∙ ap (λ rs. run_with config journal (inputs_until e more) ∷ rs) (later ∙ ap (with_last input) some)
        ∙ ap (λ rs. with_last input (run_with config journal (inputs_until e more) ∷ rs)) (sym some)

    by_end : (b : Bool) → Pushed → runs_of e (more ++ comes_in f input ∷ []) ≡ with_last input (runs_of e more) →
        (if b then run_with config journal (inputs_until e (more ++ comes_in f input ∷ []))
        ∷ runs_of e (more ++ comes_in f input ∷ []) else runs_of e (more ++ comes_in f input ∷ [])) ≡
        with_last input (if b then run_with config journal (inputs_until e more) ∷ runs_of e more else runs_of e more)
    by_end true own _ = own
    by_end false _ later = later

pub runs_of-other_input : (e f : End) (input : KeepingInput) (before : Events) → same_end e f ≡ false →
    runs_of e (before ++ comes_in f input ∷ []) ≡ runs_of e before
runs_of-other_input e f _ [] _ = refl
runs_of-other_input e f input (comes_in g i ∷ more) other = runs_of-other_input e f input more other
runs_of-other_input e f input (begins g _ _ ∷ more) other =
    rw (until_other e f input more other, runs_of-other_input e f input more other)

-- a beginning at this end or at the other one
pub runs_of-begins : (e f : End) (config : EndConfig) (journal : List ℕ) (before : Events) →
    runs_of e (before ++ begins f config journal ∷ []) ≡
    runs_of e before ++ (if same_end e f then run_with config journal [] ∷ [] else [])
runs_of-begins e f _ _ [] = refl
runs_of-begins e f config journal (comes_in g i ∷ more) = runs_of-begins e f config journal more
runs_of-begins e f config journal (begins g config' journal' ∷ more) =
    by_end (same_end e g) (runs_of-begins e f config journal more)
  where
    added : List Run
    added = if same_end e f then run_with config journal [] ∷ [] else []

    by_end : (b : Bool) → runs_of e (more ++ begins f config journal ∷ []) ≡ runs_of e more ++ added →
        (if b then run_with config' journal' (inputs_until e (more ++ begins f config journal ∷ []))
        ∷ runs_of e (more ++ begins f config journal ∷ []) else runs_of e (more ++ begins f config journal ∷ [])) ≡
        (if b then run_with config' journal' (inputs_until e more) ∷ runs_of e more else runs_of e more) ++ added
    by_end true later = ap (λ is. run_with config' journal' is ∷ runs_of e (more ++ begins f config journal ∷ []))
        (until_begins e f config journal more) ∙ ap (λ rs. run_with config' journal' (inputs_until e more) ∷ rs) later
    by_end false later = later

pub same_is : (e f : End) → same_end e f ≡ true → f ≡ e
same_is A B same = cc
same_is B A same = cc
same_is e f _ = refl

pub same_own : (e : End) → same_end e e ≡ true
same_own A = refl
same_own B = refl

-- the runs of an end after one more happening
pub data IsNext (e : End) (runs : List Run) : Happening → List Run → Type 0 where
  same_runs : (h : Happening) → IsNext e runs h runs
  new_run : (config : EndConfig) (journal : List ℕ) →
      IsNext e runs (begins e config journal) (runs ++ run_with config journal [] ∷ [])
  new_input : (input : KeepingInput) → IsNext e runs (comes_in e input) (with_last input runs)

pub is_next : (e : End) (before : Events) (h : Happening) → IsNext e (runs_of e before) h (runs_of e (before ++ h ∷ []))
is_next e before (begins f config journal) = by_end (same_end e f) refl
  where
    by_end : (b : Bool) → same_end e f ≡ b → IsNext e (runs_of e before) (begins f config journal)
        (runs_of e (before ++ begins f config journal ∷ []))
    by_end true same = rw (runs_of-begins e f config journal before, same, same_is e f same) (new_run config journal)
    by_end false other =
        rw (runs_of-begins e f config journal before, other, append-nil (runs_of e before)) (same_runs _)
is_next e before (comes_in f input) = by_end (same_end e f) refl
  where
    by_end : (b : Bool) → same_end e f ≡ b → IsNext e (runs_of e before) (comes_in f input)
        (runs_of e (before ++ comes_in f input ∷ []))
    by_end true same = rw (runs_of-input e f input before same, same_is e f same) (new_input input)
    by_end false other = rw (runs_of-other_input e f input before other) (same_runs _)

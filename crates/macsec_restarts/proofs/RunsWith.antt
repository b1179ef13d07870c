-- The runs of an end, each with the option or without it: one more input or run, and what holds of the first runs.
use Rattle.macsec_restarts.{
  proofs.{
    Names.{[], ◌++◌, ◌∷◌, ◌≡◌, All, All-cons, All-head, All-nil, All-tail, AllPairs, AllPairs-cons, append-nil},
    Names.{append_assoc, AtEach, begins, Bool, comes_in, End, EndConfig, Events, Happening, inl, inr, IsMember},
    Names.{KeepingInput, length, List, no_pairs, one_alone, pairs-head, pairs-tail, refl, Run, runs_at, RunWith, Some},
    Names.{suc, take, zero, ℕ},
    Origins.{first_all, first_pairs},
    Pushed.{is_next, IsNext, new_input, new_run, run_with, same_runs, with_input, with_last},
  },
  specs.Kept.{last_of, runs_with},
}

-- ---- one more input, or one more run

abbrev pub push : KeepingInput → RunWith → RunWith
push input r = record r { run = with_input input r.run }

abbrev pub push_last : KeepingInput → List RunWith → List RunWith
push_last input [] = []
push_last input (r ∷ []) = push input r ∷ []
push_last input (r ∷ later ∷ more) = r ∷ push_last input (later ∷ more)

runs_with-last : (ahead : ℕ → Bool) (input : KeepingInput) (runs : List Run) → runs_with ahead (with_last input runs) ≡
    push_last input (runs_with ahead runs)
runs_with-last ahead input (_ ∷ later ∷ more) = rw (runs_with-last (λ n. ahead (suc n)) input (later ∷ more))
runs_with-last _ _ _ = refl

pub runs_with-more : (ahead : ℕ → Bool) (runs : List Run) (run : Run) → runs_with ahead (runs ++ run ∷ []) ≡
    runs_with ahead runs ++ record { ahead = ahead (length runs); run = run } ∷ []
runs_with-more _ [] _ = refl
runs_with-more ahead (p ∷ runs) run = rw (runs_with-more (λ n. ahead (suc n)) runs run)

-- the runs of an end after one more happening
pub data Grows (e : End) (rs : List RunWith) : Happening → List RunWith → Type 0 where
  stays_as_it_is : (h : Happening) → Grows e rs h rs
  begins_run : (config : EndConfig) (journal : List ℕ) (b : Bool) →
      Grows e rs (begins e config journal) (rs ++ record { ahead = b; run = run_with config journal [] } ∷ [])
  gets_input : (input : KeepingInput) → Grows e rs (comes_in e input) (push_last input rs)

pub grows : (ahead : End → ℕ → Bool) (e : End) (before : Events) (h : Happening) →
    Grows e (runs_at ahead e before) h (runs_at ahead e (before ++ h ∷ []))
grows ahead e before h = by_next (is_next e before h)
  where
    by_next : {runs : List Run} {h' : Happening} {after : List Run} → IsNext e runs h' after →
        Grows e (runs_with (ahead e) runs) h' (runs_with (ahead e) after)
    by_next (same_runs h') = stays_as_it_is h'
    by_next {runs} (new_run config journal) = rw (runs_with-more _ runs _) (begins_run config journal _)
    by_next {runs} (new_input input) = rw (runs_with-last _ input runs) (gets_input input)

-- ---- what holds of the runs holds of the first runs

pub record IsHereditary (R : RunWith → RunWith → Type 0) : Type 0 where
  pub less : (input : KeepingInput) (r later : RunWith) → R r (push input later) → R r later

all_less : (P : RunWith → Type 0) → (input : KeepingInput) → ((r : RunWith) → P (push input r) → P r) →
    (rs : List RunWith) → All P (push_last input rs) → All P rs
all_less P _ _ [] _ = All-nil P
all_less P input less (r ∷ []) all = All-cons P r [] (less r (All-head P (push input r) [] all)) (All-nil P)
all_less P input less (r ∷ later ∷ more) all =
    All-cons P r (later ∷ more) (All-head P r (push_last input (later ∷ more)) all)
    (all_less P input less (later ∷ more) (All-tail P r (push_last input (later ∷ more)) all))

pairs_less : (R : RunWith → RunWith → Type 0) → IsHereditary R → (input : KeepingInput) (rs : List RunWith) →
    AllPairs R (push_last input rs) → AllPairs R rs
pairs_less R _ _ [] _ = no_pairs R
pairs_less R _ _ (r ∷ []) _ = one_alone R r
pairs_less R by input (r ∷ later ∷ more) pairs =
    AllPairs-cons R r (later ∷ more) (all_less (R r) input (λ x. by.less input r x) (later ∷ more)
    (pairs-head R r (push_last input (later ∷ more)) pairs))
    (pairs_less R by input (later ∷ more) (pairs-tail R r (push_last input (later ∷ more)) pairs))

one_less : (R : RunWith → RunWith → Type 0) → IsHereditary R → (e : End) (rs : List RunWith) (h : Happening)
    (after : List RunWith) → Grows e rs h after → AllPairs R after → AllPairs R rs
one_less R _ e _ _ _ (stays_as_it_is h) pairs = pairs
one_less R _ e rs _ _ (begins_run _ _ b) pairs = first_pairs R rs _ pairs
one_less R by e rs _ _ (gets_input input) pairs = pairs_less R by input rs pairs

pub pairs_first : (R : RunWith → RunWith → Type 0) → IsHereditary R → (ahead : End → ℕ → Bool) (e : End)
    (more before : Events) → AllPairs R (runs_at ahead e (before ++ more)) → AllPairs R (runs_at ahead e before)
pairs_first R by _ e [] before pairs = rw (append-nil before) at pairs
pairs_first R by ahead e (h ∷ more) before pairs =
    one_less R by e (runs_at ahead e before) h (runs_at ahead e (before ++ h ∷ [])) (grows ahead e before h)
    (pairs_first R by ahead e more (before ++ h ∷ []) (rw (append_assoc before (h ∷ []) more) pairs))

all_one_less : (P : RunWith → Type 0) → ((input : KeepingInput) (r : RunWith) → P (push input r) → P r) →
    (e : End) (rs : List RunWith) (h : Happening) (after : List RunWith) → Grows e rs h after → All P after → All P rs
all_one_less P less e _ _ _ (stays_as_it_is h) all = all
all_one_less P less e rs _ _ (begins_run _ _ b) all = first_all P rs _ all
all_one_less P less e rs _ _ (gets_input input) all = all_less P input (less input) rs all

pub runs_first : (P : RunWith → Type 0) → ((input : KeepingInput) (r : RunWith) → P (push input r) → P r) →
    (ahead : End → ℕ → Bool) (e : End) (more before : Events) → All P (runs_at ahead e (before ++ more)) →
    All P (runs_at ahead e before)
runs_first P less _ e [] before all = rw (append-nil before) at all
runs_first P less ahead e (h ∷ more) before all =
    all_one_less P less e (runs_at ahead e before) h (runs_at ahead e (before ++ h ∷ [])) (grows ahead e before h)
    (runs_first P less ahead e more (before ++ h ∷ []) (rw (append_assoc before (h ∷ []) more) all))

pub last_there : (rs : List RunWith) → (r : RunWith) → last_of rs ≡ Some r → IsMember rs r
last_there [] r last = cc
last_there (p ∷ []) r last = inl cc
last_there (p ∷ q ∷ more) r last = inr (last_there (q ∷ more) r last)

-- ---- the first happenings of a list

-- a list is its first elements and others
pub record IsCut (k : ℕ) (events : Events) : Type 0 where
  pub rest : Events
  pub is : take k events ++ rest ≡ events

pub cut : (k : ℕ) (events : Events) → IsCut k events
cut zero events = record { rest = events; is = refl }
cut (suc k) [] = record { rest = []; is = refl }
cut (suc k) (h ∷ more) = let it = cut k more in record { rest = it.rest; is = rw it.is }

-- what holds at each moment holds at each moment of the first ones
pub first_moments : (P : Events → Happening → Type 0) (before xs ys : Events) →
    AtEach P before (xs ++ ys) → AtEach P before xs
first_moments P _ [] _ _ = tt
first_moments P _ (h ∷ xs) ys each = (each.0, first_moments P _ xs ys each.1)

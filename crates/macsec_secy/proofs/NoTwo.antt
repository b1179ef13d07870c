-- Lists in which no two elements pass a test together, and the changes that keep this.
use Rattle.macsec_secy.proofs.Names.{[], ◌++◌, ◌||◌, ◌∷◌, ◌≡◌, Bool, false, filter, find, if◌then◌else◌, is_some, List}
use Rattle.macsec_secy.proofs.Names.{list_any, map, NoTwo, or_from, or_parts, refl, Some, true}

-- ---- no element passes a test

pub none-map : {A B : Type 0} (f : A → B) (p : A → Bool) (q : B → Bool) → ((x : A) → p x ≡ false → q (f x) ≡ false) → (xs : List A) →
    list_any p xs ≡ false → list_any q (map f xs) ≡ false
none-map f p q stays [] none = refl
none-map f p q stays (x ∷ xs) none =
    let parts = or_parts (p x) (list_any p xs) none in
    or_from (q (f x)) (list_any q (map f xs)) (stays x parts.0) (none-map f p q stays xs parts.1)

pub none-filter : {A : Type 0} (p keep : A → Bool) (xs : List A) → list_any p xs ≡ false → list_any p (filter keep xs) ≡ false
none-filter p keep [] none = refl
none-filter p keep (x ∷ xs) none =
    let parts = or_parts (p x) (list_any p xs) none in
    by_test (keep x) parts.0 (none-filter p keep xs parts.1)
  where
    by_test : (b : Bool) → p x ≡ false → list_any p (filter keep xs) ≡ false → list_any p (if b then x ∷ filter keep xs else filter keep xs) ≡ false
    by_test true fails later = or_from (p x) (list_any p (filter keep xs)) fails later
    by_test false fails later = later

pub none-with : {A : Type 0} (p : A → Bool) (xs : List A) (new : A) → list_any p xs ≡ false → p new ≡ false → list_any p (xs ++ new ∷ []) ≡ false
none-with p [] new none fails = or_from (p new) false fails refl
none-with p (x ∷ xs) new none fails =
    let parts = or_parts (p x) (list_any p xs) none in
    or_from (p x) (list_any p (xs ++ new ∷ [])) parts.0 (none-with p xs new parts.1 fails)

pub none_at_all : {A : Type 0} (p : A → Bool) → ((x : A) → p x ≡ false) → (xs : List A) → list_any p xs ≡ false
none_at_all p fails [] = refl
none_at_all p fails (x ∷ xs) = or_from (p x) (list_any p xs) (fails x) (none_at_all p fails xs)

pub none_found : {A : Type 0} (p : A → Bool) (xs : List A) → is_some (find p xs) ≡ false → list_any p xs ≡ false
none_found p [] none = refl
none_found p (x ∷ xs) none = by_test (p x) (none_found p xs) none
  where
    by_test : (b : Bool) → (is_some (find p xs) ≡ false → list_any p xs ≡ false) → is_some (if b then Some x else find p xs) ≡ false → (b || list_any p xs) ≡ false
    by_test true later none' = cc
    by_test false later none' = later none'

-- ---- no two elements pass the test together

pub no_two-map : {A B : Type 0} (f : A → B) (test : A → A → Bool) (after : B → B → Bool) → ((x y : A) → test x y ≡ false → after (f x) (f y) ≡ false) →
    (xs : List A) → NoTwo test xs → NoTwo after (map f xs)
no_two-map f test after stays [] apart = tt
no_two-map f test after stays (x ∷ xs) apart =
    (none-map f (test x) (after (f x)) (stays x) xs apart.0, no_two-map f test after stays xs apart.1)

pub no_two-filter : {A : Type 0} (keep : A → Bool) (test : A → A → Bool) (xs : List A) → NoTwo test xs → NoTwo test (filter keep xs)
no_two-filter keep test [] apart = tt
no_two-filter keep test (x ∷ xs) apart = by_test (keep x) (none-filter (test x) keep xs apart.0) (no_two-filter keep test xs apart.1)
  where
    by_test : (b : Bool) → list_any (test x) (filter keep xs) ≡ false → NoTwo test (filter keep xs) → NoTwo test (if b then x ∷ filter keep xs else filter keep xs)
    by_test true none later = (none, later)
    by_test false none later = later

-- after an element is added that passes the test with none of them
pub no_two-with : {A : Type 0} (test : A → A → Bool) (xs : List A) (new : A) → list_any (λ x. test x new) xs ≡ false → NoTwo test xs → NoTwo test (xs ++ new ∷ [])
no_two-with test [] new none apart = (refl, tt)
no_two-with test (x ∷ xs) new none apart =
    let parts = or_parts (test x new) (list_any (λ y. test y new) xs) none in
    (none-with (test x) xs new apart.0 parts.0, no_two-with test xs new parts.1 apart.1)

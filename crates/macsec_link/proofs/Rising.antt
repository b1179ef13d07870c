-- The items of two lists, pair by pair, no two pairs at the same moment: the moments rise.
use Rattle.macsec_link.proofs.{
  Names.{[], ◌++◌, ◌<◌, ◌∷◌, ◌≡◌, ◌≤◌, All, All-nil, All-push, All-weaker, all_pairs_push, AllPairs, ap, arith},
  Names.{length, List, refl, slice_get, Some, suc, zero, ℕ},
  Pairs.no_pairs,
}

-- three lists have the same length, and R holds of the items at each index
abbrev pub EachOf : {X Y : Type 0} → (ℕ → X → Y → Type 0) → List ℕ → List X → List Y → Type 0
EachOf R [] [] [] = Unit {0}
EachOf R (k ∷ ks) (x ∷ xs) (y ∷ ys) = R k x y × EachOf R ks xs ys
EachOf R ks xs ys = ⊥

-- R holds of each pair at its moment, before moment `count`
pub record ComeAt {X Y : Type 0} (R : ℕ → X → Y → Type 0) (count : ℕ) (xs : List X) (ys : List Y) : Type 0 where
  pub moments : List ℕ
  pub rise : AllPairs (λ j k. j < k) moments
  pub before : All (λ k. k < count) moments
  pub each : EachOf R moments xs ys

module _ {X Y : Type 0} (R : ℕ → X → Y → Type 0) where
  each_of-push : (ks : List ℕ) (xs : List X) (ys : List Y) (k : ℕ) (x : X) (y : Y) → EachOf R ks xs ys → R k x y →
      EachOf R (ks ++ k ∷ []) (xs ++ x ∷ []) (ys ++ y ∷ [])
  each_of-push [] [] [] k x y each new = (new, tt)
  each_of-push (j ∷ ks) (u ∷ xs) (v ∷ ys) k x y each new = (each.0, each_of-push ks xs ys k x y each.1 new)
  each_of-push ks xs ys k x y each new = absurd each

  pub none_come : (count : ℕ) → ComeAt R count [] []
  none_come count = record { moments = []; rise = no_pairs (λ j k. j < k); before = All-nil (λ k. k < count); each = tt }

  pub come_before : (count later : ℕ) (xs : List X) (ys : List Y) → count ≤ later → ComeAt R count xs ys → ComeAt R later xs ys
  come_before count later xs ys within it = record {
    moments = it.moments;
    rise = it.rise;
    before = All-weaker (λ k. k < count) (λ k. k < later) (λ k less. omega (arith, less, within)) it.moments it.before;
    each = it.each;
  }

  -- one more pair, at moment `count`
  pub one_comes : (count : ℕ) (xs : List X) (ys : List Y) (x : X) (y : Y) → ComeAt R count xs ys → R count x y → ComeAt R (suc count) (xs ++ x ∷ []) (ys ++ y ∷ [])
  one_comes count xs ys x y it new = record {
    moments = it.moments ++ count ∷ [];
    rise = all_pairs_push (λ j k. j < k) it.moments count it.rise it.before;
    before = All-push (λ k. k < suc count) it.moments count
        (All-weaker (λ k. k < count) (λ k. k < suc count) (λ k less. omega (arith, less)) it.moments it.before) (omega arith);
    each = each_of-push it.moments xs ys count x y it.each new;
  }

  pub as_many : (ks : List ℕ) (xs : List X) (ys : List Y) → EachOf R ks xs ys → (length ks ≡ length ys) × (length xs ≡ length ys)
  as_many [] [] [] each = (refl, refl)
  as_many (k ∷ ks) (x ∷ xs) (y ∷ ys) each = let rest = as_many ks xs ys each.1 in (ap suc rest.0, ap suc rest.1)
  as_many ks xs ys each = absurd each

  pub at_index : (ks : List ℕ) (xs : List X) (ys : List Y) → EachOf R ks xs ys → (j k : ℕ) (x : X) (y : Y) →
      slice_get ks j ≡ Some k → slice_get xs j ≡ Some x → slice_get ys j ≡ Some y → R k x y
  at_index (l ∷ ks) (u ∷ xs) (v ∷ ys) each zero k x y of_moment first second =
      let moment : l ≡ k = cc in
      let one : u ≡ x = cc in
      let two : v ≡ y = cc in
      rw (← moment, ← one, ← two) each.0
  at_index (l ∷ ks) (u ∷ xs) (v ∷ ys) each (suc j) k x y of_moment first second = at_index ks xs ys each.1 j k x y of_moment first second
  at_index ks xs ys each j k x y of_moment first second = cc

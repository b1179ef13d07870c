-- After the borrow of a slice, its owner is as the borrower left the slice.
use Rattle.{
  std.proofs.lemmas.List.take-append-le,
  macsec_secy.proofs.Names.{[], ◌∙◌, ◌∷◌, ◌≡◌, ◌≤◌, ap, arith, drop, length, List, refill, refl, take, ℕ},
}

take_all : {X : Type 0} (new : List X) → take (length new) new ≡ new
take_all [] = refl
take_all (first ∷ new) = ap (λ rest. first ∷ rest) (take_all new)

pub left_in_place : {X : Type 0} (n : ℕ) (old new : List X) → length new ≡ n → refill n old new ≡ new
left_in_place n old new same =
    let fits : n ≤ length new = omega arith in
    rw (← same) (take-append-le (length new) new (drop (length new) old) (omega arith) ∙ take_all new)

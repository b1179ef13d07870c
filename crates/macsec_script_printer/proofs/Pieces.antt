-- Texts written one after another: what they append together.
use Rattle.std.proofs.{
  Common.{◌≡◌, ℕ, ◌+◌, ◌<◌, List, [], ◌∷◌, ◌++◌, length, map, get_or, take, refl, sym, ap, ◌∙◌, subst, Option, Result},
  Common.{Ok, Err, OnOk, flat_map},
  KnownBytes.Appends-trans,
  lemmas.List.{take_more, flat_map_more},
}
use Rattle.std.specs.Io.KnownBytes.{Appends}

-- the texts of the first i elements, and of one more
pub one_more_piece : {X : Type 0} (text : X → List ℕ) (xs : List X) (i : ℕ) (x : X) (old mid new : Option (List ℕ)) →
    i < length xs → Appends old mid (flat_map text (take i xs)) → Appends mid new (text (get_or xs i x)) →
    Appends old new (flat_map text (take (i + 1) xs))
one_more_piece text xs i x old mid new within front piece =
    subst (Appends old new) (flat_map_more text [] (take i xs) (get_or xs i x) ∙ sym (ap (flat_map text) (take_more xs i x within)))
    (Appends-trans old mid new _ _ front piece)

-- the first part of a text, and then the rest
pub end_of_text : {E : Type 0} (result : Result (Unit {0}) E) (old mid new : Option (List ℕ)) (front end whole : List ℕ) →
    Appends old mid front → OnOk result (Appends mid new end) → front ++ end ≡ whole → OnOk result (Appends old new whole)
end_of_text (Ok done) old mid new front end whole before after same = subst (Appends old new) same (Appends-trans old mid new front end before after)
end_of_text (Err fault) old mid new front end whole before after same = tt

flat_map_map : {X Y : Type 0} (seen : X → Y) (text : Y → List ℕ) (xs : List X) → flat_map text (map seen xs) ≡ flat_map (λ x. text (seen x)) xs
flat_map_map seen text [] = refl
flat_map_map seen text (x ∷ xs) = ap (λ more. text (seen x) ++ more) (flat_map_map seen text xs)

-- the same for texts of `seen x`
pub one_more_seen : {X Y : Type 0} (seen : X → Y) (text : Y → List ℕ) (xs : List X) (i : ℕ) (x : X) (old mid new : Option (List ℕ)) →
    i < length xs → Appends old mid (flat_map text (map seen (take i xs))) → Appends mid new (text (seen (get_or xs i x))) →
    Appends old new (flat_map text (map seen (take (i + 1) xs)))
one_more_seen seen text xs i x old mid new within front piece =
    subst (Appends old new) (sym (flat_map_map seen text (take (i + 1) xs)))
    (one_more_piece (λ x. text (seen x)) xs i x old mid new within (subst (Appends old mid) (flat_map_map seen text (take i xs)) front) piece)

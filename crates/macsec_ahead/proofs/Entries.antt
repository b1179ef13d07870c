-- One more entry.
use Rattle.std.proofs.{
  Common.{◌≡◌, ℕ, ◌+◌, ◌<◌, List, [], ◌∷◌, ◌++◌, length, map, take, get_or, ap, sym, ◌∙◌, append_assoc},
  lemmas.List.{map-append, take_more},
}

pub one_more : {X Y : Type 0} (f : X → Y) (first before after : List Y) (xs : List X) (i : ℕ) (x : X) (y : Y) → i < length xs → x ≡ get_or xs i x → y ≡ f x →
    before ≡ first ++ map f (take i xs) → after ≡ before ++ y ∷ [] → after ≡ first ++ map f (take (i + 1) xs)
one_more f first before after xs i x y less is_item is_y is_before is_after =
    is_after
    ∙ ap (λ ys. ys ++ y ∷ []) is_before
    ∙ ap (λ z. (first ++ map f (take i xs)) ++ z ∷ []) is_y
    ∙ append_assoc first (map f (take i xs)) (f x ∷ [])
    ∙ ap (λ ys. first ++ ys) (sym (map-append f (take i xs) (x ∷ [])))
    ∙ ap (λ z. first ++ map f (take i xs ++ z ∷ [])) is_item
    ∙ ap (λ zs. first ++ map f zs) (sym (take_more xs i x less))

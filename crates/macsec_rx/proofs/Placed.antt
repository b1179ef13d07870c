-- Parts of a frame in a slice.
use Rattle.std.proofs.{
  Common.{◌≡◌, ℕ, ◌+◌, ◌-◌, List, ◌++◌, length, take, drop, ap, sym, ◌∙◌, arith, append_assoc, slice_range},
  Common.take-append-drop,
  Math.Seq.{take-append-add, drop-append_seam},
  lemmas.List.drop-take,
}

-- the octets after the first n of a slice are the part, and the next m octets after it
pub placed : (out front part behind : List ℕ) (n k m : ℕ) → length front ≡ n → length part ≡ k → take (n + k) out ≡ front ++ part → drop (n + k) out ≡ behind
    → slice_range out n (n + (k + m)) ≡ part ++ take m behind
placed out front part behind n k m front_long part_long before after =
    let whole : out ≡ front ++ (part ++ behind) =
    sym (take-append-drop (n + k) out) ∙ ap (λ xs. xs ++ drop (n + k) out) before ∙
    ap (λ xs. (front ++ part) ++ xs) after ∙ append_assoc front part behind in
    let count : n + (k + m) - n ≡ length part + m = omega (arith, part_long) in
    ap (λ xs. slice_range xs n (n + (k + m))) whole
    ∙ ap (λ j. take (n + (k + m) - n) (drop j (front ++ (part ++ behind)))) (sym front_long)
    ∙ ap (λ xs. take (n + (k + m) - n) xs) (drop-append_seam front (part ++ behind))
    ∙ ap (λ j. take j (part ++ behind)) count
    ∙ take-append-add part behind m

-- the octets after the first n of a slice are the part
pub behind : (out front part : List ℕ) (n k : ℕ) → length front ≡ n → take (n + k) out ≡ front ++ part → take k (drop n out) ≡ part
behind out front part n k long before =
    sym (drop-take n k out) ∙ ap (drop n) before ∙ ap (λ j. drop j (front ++ part)) (sym long) ∙ drop-append_seam front part

-- The first octets of a list after a write.
use Rattle.std.proofs.{
  Common.{◌≡◌, ◌≤◌, ◌+◌, ◌++◌, ℕ, List, length, take, sym, ap, ◌∙◌, arith, append_assoc, length-append, length-take-le},
  Math.Seq.{take-append_seam, take-append-add},
}
use borrow.Rule.Slice.PartMut.{put_mid, post_of}

-- after a write, the front of what was written follows the octets before it
pub take-put_mid_front : (a k : ℕ) (xs front rest : List ℕ) → a ≤ length xs
    → take (a + length front) (put_mid a k xs (front ++ rest)) ≡ take a xs ++ front
take-put_mid_front a k xs front rest le =
    let before : List ℕ = take a xs in
    let after : List ℕ = post_of a k xs in
    ap (λ (n : ℕ). take (n + length front) (before ++ ((front ++ rest) ++ after))) (sym (length-take-le a xs le))
    ∙ take-append-add before ((front ++ rest) ++ after) (length front)
    ∙ ap (λ (ys : List ℕ). before ++ take (length front) ys) (append_assoc front rest after)
    ∙ ap (λ (ys : List ℕ). before ++ ys) (take-append_seam front (rest ++ after))

-- the list has at least the octets before the write and the front of what was written
pub length-put_mid_front : (a k : ℕ) (xs front rest : List ℕ) → a ≤ length xs
    → a + length front ≤ length (put_mid a k xs (front ++ rest))
length-put_mid_front a k xs front rest le =
    let before : List ℕ = take a xs in
    let after : List ℕ = post_of a k xs in
    omega (
      arith,
      length-take-le a xs le,
      length-append before ((front ++ rest) ++ after),
      length-append (front ++ rest) after,
      length-append front rest,
    )

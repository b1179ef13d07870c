-- The sums of a text and a stream, by vectors.
use Rattle.std.proofs.{
  Common.{◌≡◌, ℕ, ◌+◌, ◌-◌, ◌≤◌, ◌++◌, List, drop, take, length, length-append, length-drop, get_or, slice_index},
  Common.{bit_xor, ap, ap₂, ◌∙◌, sym, inl, inr, arith, get_or-drop, get_or-take, length-take-le, take_all},
  lemmas.Bool.cases_lt,
  lemmas.List.{get_or_append_left, get_or-append_right, FromFn.fill_by_all},
  lemmas.Simd.{get_or-chunk, get_or-put_chunk_above, get_or-put_chunk_at, get_or-zip2, length-chunk, length-zip2},
}
use Rattle.std.specs.Simd.Lanes.{chunk, put_chunk, zip2}
use Rattle.macsec_gcm.{
  proofs.KeyStreams.{get_or-sum_with_stream, length-sum_with_stream},
  specs.{Octets.sum_with_stream, Streams.IsSumBelow},
}

pub sum_of_vector : (n : ℕ) (text stream : List ℕ) → n ≤ length text → n ≤ length stream
    → IsSumBelow (slice_index stream) text (put_chunk 0 text (zip2 bit_xor (chunk 0 n text) (chunk 0 n stream))) n
sum_of_vector n text stream lt ls =
    let a : List ℕ = chunk 0 n text in
    let b : List ℕ = chunk 0 n stream in
    let long_a : length a ≡ n = length-chunk 0 n text (omega arith) in
    let long_b : length b ≡ n = length-chunk 0 n stream (omega arith) in
    let sum : List ℕ = zip2 bit_xor a b in
    let long : length sum ≡ n = length-zip2 bit_xor a b (long_a ∙ sym long_b) ∙ long_a in
    record {
      done = λ k below inside.
          let place : 0 + k ≡ k = omega arith in
          let stored = get_or-put_chunk_at 0 text sum k 0 (omega (arith, long)) (omega (arith, long)) in
          let first = get_or-chunk 0 n text k 0 below in
          let second = get_or-chunk 0 n stream k 0 below in
          rw place at stored ∙ get_or-zip2 bit_xor a b k 0 0 0 (omega (arith, long_a)) (omega (arith, long_b))
          ∙ ap₂ bit_xor (rw place at first) (rw place at second);
      left = λ k ge. get_or-put_chunk_above 0 text sum k 0 (omega (arith, long));
    }

-- all from an index on
pub rest_is : (a : ℕ) (xs : List ℕ) → take (length xs - a) (drop a xs) ≡ drop a xs
rest_is a xs = take_all (length xs - a) (drop a xs) (omega (arith, length-drop a xs))

pub at_rest : (a : ℕ) (xs : List ℕ) (k : ℕ) → slice_index (take (length xs - a) (drop a xs)) k ≡ slice_index xs (a + k)
at_rest a xs k = ap (λ (ys : List ℕ). get_or ys k 0) (rest_is a xs) ∙ get_or-drop a xs k 0

-- the rest of a text and of a stream are added
pub sum_of_rest : (old text stream ys : List ℕ) (a : ℕ) → IsSumBelow (slice_index stream) old text a → length text ≡ length old → a ≤ length text
    → ys ≡ sum_with_stream (take (length text - a) (drop a text)) (take (length stream - a) (drop a stream)) → take a text ++ ys ≡ sum_with_stream old stream
unfolding sum_with_stream
sum_of_rest old text stream ys a held same le e =
    let rest : List ℕ = take (length text - a) (drop a text) in
    let added : List ℕ = take (length stream - a) (drop a stream) in
    let rest_long : length rest ≡ length text - a = ap length (rest_is a text) ∙ length-drop a text in
    let ys_long : length ys ≡ length text - a = ap length e ∙ length-sum_with_stream rest added ∙ rest_long in
    let front : length (take a text) ≡ a = length-take-le a text le in
    let long : length (take a text ++ ys) ≡ length old = omega (arith, length-append (take a text) ys, front, ys_long, same) in
    fill_by_all (λ k. bit_xor (get_or old k 0) (get_or stream k 0)) (take a text ++ ys) (length old) 0 long
    (λ k lt. elim (cases_lt k a) [
      | inl below ↦ get_or_append_left (take a text) ys 0 k (omega (arith, front)) ∙ get_or-take a text k 0 below ∙ held.done k below lt
      | inr past ↦
          let j : ℕ = k - a in
          let place : a + j ≡ k = omega arith in
          get_or-append_right (take a text) ys a k 0 front past
          ∙ ap (λ (zs : List ℕ). get_or zs j 0) e
          ∙ get_or-sum_with_stream rest added j (omega (arith, rest_long, same))
          ∙ ap₂ bit_xor (at_rest a text j ∙ ap (λ (p : ℕ). get_or text p 0) place ∙ held.left k past) (at_rest a stream j ∙ ap (λ (p : ℕ). get_or stream p 0) place)
    ])

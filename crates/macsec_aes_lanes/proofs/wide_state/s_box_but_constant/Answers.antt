use Rattle.macsec_aes_lanes.proofs.{
  Names.{[], ◌%◌, ◌*◌, ◌+◌, ◌/◌, ◌<◌, ◌∙◌, ◌∷◌, ◌≡◌, ap, ap₂, arith, bit_at, bit_of, List, plus_constant, s_box},
  Names.{slice_index, ℕ},
  Below.below_eight,
  WordSets.same_bits,
}
use Rattle.macsec_aes_lanes.proofs.wide_state.s_box_but_constant.Goals as goal

pub returns : goal.returns
returns c j lj k lk =
    let v = c.args.v in
    let s = c.sub_bytes_but_constant-s.result in
    let l : ℕ = j / 8 in
    let n : ℕ = 8 * (j % 8) + k in
    let l4 : l < 4 = omega arith in
    let ln : n < 64 = omega arith in
    let lane : 8 * l + n / 8 ≡ j = omega arith in
    let bit : n % 8 ≡ k = omega arith in
    let own : (xs : List ℕ) → bit_at (slice_index xs (8 * l + n / 8)) (n % 8) ≡ bit_at (slice_index xs j) k =
    λ xs. ap₂ (λ (p q : ℕ). bit_at (slice_index xs p) q) lane bit in
    let from : List (List ℕ) =
    c.words_of.result ∷ c.words_of-2.result ∷ c.words_of-3.result ∷ c.words_of-4.result
    ∷ c.words_of-5.result ∷ c.words_of-6.result ∷ c.words_of-7.result ∷ c.words_of-8.result ∷ [] in
    let to : List (List ℕ) =
    c.lanes_of_words.result ∷ c.lanes_of_words-2.result ∷ c.lanes_of_words-3.result ∷ c.lanes_of_words-4.result
    ∷ c.lanes_of_words-5.result ∷ c.lanes_of_words-6.result ∷ c.lanes_of_words-7.result ∷ c.lanes_of_words-8.result ∷ [] in
    same_bits to s j k l n (below_eight (λ i. bit_of to i j k ≡ bit_of s i l n)
    (c.lanes_of_words.ensures j lj k lk)
    (c.lanes_of_words-2.ensures j lj k lk)
    (c.lanes_of_words-3.ensures j lj k lk)
    (c.lanes_of_words-4.ensures j lj k lk)
    (c.lanes_of_words-5.ensures j lj k lk)
    (c.lanes_of_words-6.ensures j lj k lk)
    (c.lanes_of_words-7.ensures j lj k lk)
    (c.lanes_of_words-8.ensures j lj k lk))
    ∙ c.sub_bytes_but_constant-s.ensures l l4 n ln
    ∙ ap (λ (x : ℕ). plus_constant (s_box x)) (same_bits from v l n j k (below_eight (λ i. bit_of from i l n ≡ bit_of v i j k)
    (c.words_of.ensures l l4 n ln ∙ own _)
    (c.words_of-2.ensures l l4 n ln ∙ own _)
    (c.words_of-3.ensures l l4 n ln ∙ own _)
    (c.words_of-4.ensures l l4 n ln ∙ own _)
    (c.words_of-5.ensures l l4 n ln ∙ own _)
    (c.words_of-6.ensures l l4 n ln ∙ own _)
    (c.words_of-7.ensures l l4 n ln ∙ own _)
    (c.words_of-8.ensures l l4 n ln ∙ own _)))

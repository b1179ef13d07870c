-- One word of each of eight planes is set.
use Rattle.std.proofs.Common.{set}
use Rattle.macsec_aes_lanes.{
  proofs.{
    Names.{[], ◌<◌, ◌∙◌, ◌∷◌, ◌≡◌, ◌≢◌, ap, arith, bit_at, bit_of, get_or-set_other, get_or-set_same, length},
    Names.{length-set, List, number, octet, slice_index, slice_index_or, ℕ},
    Below.below_eight,
    Gates.{cons, no_more},
  },
  specs.Words.element_of,
}

-- octets whose bits are the same
pub same_bits : (v w : List (List ℕ)) (j k m n : ℕ) → ((i : ℕ) → i < 8 → bit_of v i j k ≡ bit_of w i m n) → octet v j k ≡ octet w m n
same_bits v w j k m n e =
    ap number (cons (e 0 (omega arith)) (cons (e 1 (omega arith)) (cons (e 2 (omega arith)) (cons (e 3 (omega arith))
    (cons (e 4 (omega arith)) (cons (e 5 (omega arith)) (cons (e 6 (omega arith)) (cons (e 7 (omega arith)) no_more))))))))

-- eight planes of four words
abbrev pub AreFour : List (List ℕ) → Type 0
AreFour v = (i : ℕ) → i < 8 → length (slice_index_or v i []) ≡ 4

-- word l of these planes is from q
abbrev pub set_words : (t0 t1 t2 t3 t4 t5 t6 t7 : List ℕ) → ℕ → List ℕ → List (List ℕ)
set_words t0 t1 t2 t3 t4 t5 t6 t7 l q =
    set t0 l (slice_index q 0) ∷ set t1 l (slice_index q 1) ∷ set t2 l (slice_index q 2) ∷ set t3 l (slice_index q 3)
    ∷ set t4 l (slice_index q 4) ∷ set t5 l (slice_index q 5) ∷ set t6 l (slice_index q 6) ∷ set t7 l (slice_index q 7) ∷ []

abbrev pub planes : (t0 t1 t2 t3 t4 t5 t6 t7 : List ℕ) → List (List ℕ)
planes t0 t1 t2 t3 t4 t5 t6 t7 = t0 ∷ t1 ∷ t2 ∷ t3 ∷ t4 ∷ t5 ∷ t6 ∷ t7 ∷ []

pub still_four : (t0 t1 t2 t3 t4 t5 t6 t7 : List ℕ) (l : ℕ) (q : List ℕ) → AreFour (planes t0 t1 t2 t3 t4 t5 t6 t7)
    → AreFour (set_words t0 t1 t2 t3 t4 t5 t6 t7 l q)
still_four t0 t1 t2 t3 t4 t5 t6 t7 l q four =
    below_eight (λ i. length (slice_index_or (set_words t0 t1 t2 t3 t4 t5 t6 t7 l q) i []) ≡ 4)
    (length-set t0 l (slice_index q 0) ∙ four 0 (omega arith))
    (length-set t1 l (slice_index q 1) ∙ four 1 (omega arith))
    (length-set t2 l (slice_index q 2) ∙ four 2 (omega arith))
    (length-set t3 l (slice_index q 3) ∙ four 3 (omega arith))
    (length-set t4 l (slice_index q 4) ∙ four 4 (omega arith))
    (length-set t5 l (slice_index q 5) ∙ four 5 (omega arith))
    (length-set t6 l (slice_index q 6) ∙ four 6 (omega arith))
    (length-set t7 l (slice_index q 7) ∙ four 7 (omega arith))

pub other_word : (t0 t1 t2 t3 t4 t5 t6 t7 : List ℕ) (l : ℕ) (q : List ℕ) (m k : ℕ) → m < l
    → octet (set_words t0 t1 t2 t3 t4 t5 t6 t7 l q) m k ≡ octet (planes t0 t1 t2 t3 t4 t5 t6 t7) m k
other_word t0 t1 t2 t3 t4 t5 t6 t7 l q m k less =
    let other : m ≢ l = λ same. absurd (omega arith) in
    let kept : (t : List ℕ) (y : ℕ) → bit_at (slice_index (set t l y) m) k ≡ bit_at (slice_index t m) k =
    λ t y. ap (λ (x : ℕ). bit_at x k) (get_or-set_other t l m y 0 other) in
    same_bits (set_words t0 t1 t2 t3 t4 t5 t6 t7 l q) (planes t0 t1 t2 t3 t4 t5 t6 t7) m k m k
    (below_eight (λ i. bit_of (set_words t0 t1 t2 t3 t4 t5 t6 t7 l q) i m k ≡ bit_of (planes t0 t1 t2 t3 t4 t5 t6 t7) i m k)
    (kept t0 (slice_index q 0)) (kept t1 (slice_index q 1)) (kept t2 (slice_index q 2)) (kept t3 (slice_index q 3))
    (kept t4 (slice_index q 4)) (kept t5 (slice_index q 5)) (kept t6 (slice_index q 6)) (kept t7 (slice_index q 7)))

pub own_word : (t0 t1 t2 t3 t4 t5 t6 t7 : List ℕ) (l : ℕ) (q : List ℕ) (k : ℕ) → AreFour (planes t0 t1 t2 t3 t4 t5 t6 t7) → l < 4
    → octet (set_words t0 t1 t2 t3 t4 t5 t6 t7 l q) l k ≡ element_of 8 q k
own_word t0 t1 t2 t3 t4 t5 t6 t7 l q k four l4 =
    let new : (t : List ℕ) (y : ℕ) → length t ≡ 4 → bit_at (slice_index (set t l y) l) k ≡ bit_at y k =
    λ t y long. ap (λ (x : ℕ). bit_at x k) (get_or-set_same t l y 0 (omega (arith, long))) in
    let bit = below_eight (λ i. bit_of (set_words t0 t1 t2 t3 t4 t5 t6 t7 l q) i l k ≡ bit_at (slice_index q i) k)
    (new t0 (slice_index q 0) (four 0 (omega arith))) (new t1 (slice_index q 1) (four 1 (omega arith)))
    (new t2 (slice_index q 2) (four 2 (omega arith))) (new t3 (slice_index q 3) (four 3 (omega arith)))
    (new t4 (slice_index q 4) (four 4 (omega arith))) (new t5 (slice_index q 5) (four 5 (omega arith)))
    (new t6 (slice_index q 6) (four 6 (omega arith))) (new t7 (slice_index q 7) (four 7 (omega arith))) in
    ap number (cons (bit 0 (omega arith)) (cons (bit 1 (omega arith)) (cons (bit 2 (omega arith)) (cons (bit 3 (omega arith))
    (cons (bit 4 (omega arith)) (cons (bit 5 (omega arith)) (cons (bit 6 (omega arith)) (cons (bit 7 (omega arith)) no_more))))))))

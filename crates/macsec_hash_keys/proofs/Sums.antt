-- Sums of octets: adding a stream twice, nothing, or the difference of two texts.
use Rattle.std.{
  proofs.Common.{◌≡◌, ℕ, ◌<◌, List, [], length, get_or, bit_xor, All, inl, inr, sym, ap, ◌∙◌, subst, arith, ext_get_or},
  proofs.lemmas.{Bool.cases_lt, List.{get_or_past, FromFn.get_or-map-range_with_len}, Nat.{xor_comm, xor_lt}},
  specs.Int.Bits.{xor_assoc, xor_self, xor_zero_l, xor_zero_r},
}
use Rattle.macsec_gcm.{proofs.KeyStreams.{get_or-sum_with_stream, length-sum_with_stream}, specs.Octets.sum_with_stream}

-- ---- octets

pub twice : (a b : ℕ) → bit_xor (bit_xor a b) b ≡ a
twice a b = xor_assoc a b b ∙ ap (bit_xor a) (xor_self b) ∙ xor_zero_r a

pub twice_left : (a b : ℕ) → bit_xor a (bit_xor a b) ≡ b
twice_left a b = sym (xor_assoc a a b) ∙ ap (λ n. bit_xor n b) (xor_self a) ∙ xor_zero_l b

-- the difference of two texts, added to the pad, turns one into the other
pub turned : (p q pad : ℕ) → bit_xor q (bit_xor pad (bit_xor p q)) ≡ bit_xor p pad
turned p q pad =
    ap (bit_xor q) (sym (xor_assoc pad p q))
    ∙ xor_comm q (bit_xor (bit_xor pad p) q)
    ∙ twice _ q
    ∙ xor_comm pad p

pub octet_at : (xs : List ℕ) (k : ℕ) → All (λ o. o < 256) xs → get_or xs k 0 < 256
octet_at xs k small = elim (cases_lt k (length xs)) [
  | inl within ↦ small k 0 within
  | inr past ↦ subst (λ n. n < 256) (sym (get_or_past xs k 0 past)) (omega arith)
]

-- ---- lists

pub sum_twice : (xs d : List ℕ) → sum_with_stream (sum_with_stream xs d) d ≡ xs
sum_twice xs d =
    let once = length-sum_with_stream xs d in
    let again = length-sum_with_stream _ d in
    ext_get_or 0 (sum_with_stream (sum_with_stream xs d) d) xs (again ∙ once) (λ k lt.
    get_or-sum_with_stream _ d k (omega arith)
    ∙ ap (λ n. bit_xor n (get_or d k 0)) (get_or-sum_with_stream xs d k (omega arith))
    ∙ twice _ _)

pub sum_with_nothing : (xs : List ℕ) → sum_with_stream xs [] ≡ xs
sum_with_nothing xs =
    let long = length-sum_with_stream xs [] in
    ext_get_or 0 (sum_with_stream xs []) xs long (λ k lt.
    get_or-sum_with_stream xs [] k (omega arith) ∙ xor_zero_r (get_or xs k 0))

pub sum_octets : (xs d : List ℕ) → All (λ o. o < 256) xs → All (λ o. o < 256) d → All (λ o. o < 256) (sum_with_stream xs d)
unfolding sum_with_stream
sum_octets xs d sx sd = λ k default lt.
    let long = length-sum_with_stream xs d in
    let at = get_or-map-range_with_len (λ k. bit_xor (get_or xs k 0) (get_or d k 0)) 0 _ k k default (omega arith) (omega arith) in
    subst (λ n. n < 256) (sym at) (xor_lt 8 (get_or xs k 0) (get_or d k 0) (octet_at xs k sx) (octet_at d k sd))

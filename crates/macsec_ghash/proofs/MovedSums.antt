-- Sums of numbers, each shifted left by eight bits more than the next, and numbers as their octets.
use Rattle.{
  std.proofs.{
    Common.{◌≡◌, ℕ, zero, suc, ◌+◌, ◌-◌, ◌*◌, ◌/◌, ◌%◌, ◌^◌, ◌<◌, ◌≤◌, List, bit_xor, refl, sym, ap, ap₂, ◌∙◌, arith},
    Common.{subst, pow-add, pow_pos, shr-shr},
    Math.Nat.{pow-le-pow_right, pow-suc},
    lemmas.Nat.{shl_below, shr_below, shr_le, shr_split, xor_block, xor_lt, xor_mod, xor_shr},
  },
  std.specs.Int.{byte_at, Bits.{xor_assoc, xor_zero_l, xor_zero_r}},
  macsec_field128.specs.Field.sum_below,
  macsec_ghash.proofs.Sums.{KeepsSums, moves_keep, parts, xor_swap},
  macsec_ghash.specs.Tables.{IsMoved, moved_sum, number_from, number_in},
}

pub same_moved : (n : ℕ) (f g : ℕ → ℕ) → ((i : ℕ) → i < n → f i ≡ g i) → moved_sum n f ≡ moved_sum n g
unfolding moved_sum
same_moved zero f g e = refl
same_moved (suc n) f g e = ap₂ (λ (x y : ℕ). bit_xor (x * 2 ^ 8) y) (same_moved n f g (λ i lt. e i (omega arith))) (e n (omega arith))

pub moved_of_sums : (n : ℕ) (f g : ℕ → ℕ) → moved_sum n (λ i. bit_xor (f i) (g i)) ≡ bit_xor (moved_sum n f) (moved_sum n g)
unfolding moved_sum
moved_of_sums zero f g = refl
moved_of_sums (suc n) f g =
    ap (λ (x : ℕ). bit_xor x (bit_xor (f n) (g n)))
    (ap (λ (x : ℕ). x * 2 ^ 8) (moved_of_sums n f g) ∙ (moves_keep 8).adds (moved_sum n f) (moved_sum n g))
    ∙ xor_swap (moved_sum n f * 2 ^ 8) (moved_sum n g * 2 ^ 8) (f n) (g n)

moved_zeros : (n : ℕ) → moved_sum n (λ i. 0) ≡ 0
unfolding moved_sum
moved_zeros zero = refl
moved_zeros (suc n) = ap (λ (x : ℕ). bit_xor (x * 2 ^ 8) 0) (moved_zeros n)

-- a function that distributes over sums and shifts distributes over such a sum
pub moved_under : (f : ℕ → ℕ) → KeepsSums f → ((a : ℕ) → f (a * 2 ^ 8) ≡ f a * 2 ^ 8) → (n : ℕ) (g : ℕ → ℕ)
    → moved_sum n (λ i. f (g i)) ≡ f (moved_sum n g)
unfolding moved_sum
moved_under f keeps moves zero g = sym keeps.none
moved_under f keeps moves (suc n) g =
    ap (λ (x : ℕ). bit_xor (x * 2 ^ 8) (f (g n))) (moved_under f keeps moves n g)
    ∙ ap (λ (x : ℕ). bit_xor x (f (g n))) (sym (moves (moved_sum n g)))
    ∙ sym (keeps.adds (moved_sum n g * 2 ^ 8) (g n))

-- such a sum of sums, in either order
pub moved_of_sum : (m n : ℕ) (f : ℕ → ℕ → ℕ) → moved_sum n (λ i. sum_below m (λ p. f p i)) ≡ sum_below m (λ p. moved_sum n (f p))
unfolding sum_below
moved_of_sum zero n f = moved_zeros n
moved_of_sum (suc m) n f =
    moved_of_sums n (λ i. sum_below m (λ p. f p i)) (f m) ∙ ap (λ (x : ℕ). bit_xor x (moved_sum n (f m))) (moved_of_sum m n f)

pub moved_turned : (m n : ℕ) (f : ℕ → ℕ → ℕ) → moved_sum m (λ t. moved_sum n (f t)) ≡ moved_sum n (λ i. moved_sum m (λ t. f t i))
unfolding moved_sum
moved_turned zero n f = sym (moved_zeros n)
moved_turned (suc m) n f =
    let column : ℕ → ℕ = λ i. moved_sum m (λ t. f t i) in
    ap (λ (x : ℕ). bit_xor (x * 2 ^ 8) (moved_sum n (f m))) (moved_turned m n f)
    ∙ ap (λ (x : ℕ). bit_xor x (moved_sum n (f m))) (sym (moved_under (λ a. a * 2 ^ 8) (moves_keep 8) (λ a. refl) n column))
    ∙ sym (moved_of_sums n (λ i. column i * 2 ^ 8) (f m))

-- the first term separately
pub moved_first : (n : ℕ) (f : ℕ → ℕ) → moved_sum (suc n) f ≡ bit_xor (f 0 * 2 ^ (8 * n)) (moved_sum n (λ i. f (suc i)))
unfolding moved_sum
moved_first zero f =
    let one : f 0 ≡ f 0 * 2 ^ (8 * 0) = omega arith in
    xor_zero_l (f 0) ∙ one ∙ sym (xor_zero_r (f 0 * 2 ^ (8 * 0)))
moved_first (suc n) f =
    let more : ℕ = moved_sum n (λ i. f (suc i)) in
    let e : 8 * n + 8 ≡ 8 * suc n = omega arith in
    let twice : f 0 * 2 ^ (8 * n) * 2 ^ 8 ≡ f 0 * (2 ^ (8 * n) * 2 ^ 8) = omega arith in
    let moved : f 0 * 2 ^ (8 * n) * 2 ^ 8 ≡ f 0 * 2 ^ (8 * suc n) =
    twice ∙ ap (λ (m : ℕ). f 0 * m) (sym (pow-add 2 (8 * n) 8) ∙ ap (λ (m : ℕ). 2 ^ m) e) in
    ap (λ (x : ℕ). bit_xor (x * 2 ^ 8) (f (suc n))) (moved_first n f)
    ∙ ap (λ (x : ℕ). bit_xor x (f (suc n)))
    ((moves_keep 8).adds (f 0 * 2 ^ (8 * n)) more ∙ ap (λ (x : ℕ). bit_xor x (more * 2 ^ 8)) moved)
    ∙ xor_assoc (f 0 * 2 ^ (8 * suc n)) (more * 2 ^ 8) (f (suc n))

-- a bound on such a sum
pub moved_lt : (k n : ℕ) (f : ℕ → ℕ) → ((i : ℕ) → i < n → f i < 2 ^ k) → moved_sum n f * 2 ^ 8 < 2 ^ (8 * n + k)
unfolding moved_sum
moved_lt k zero f lt = let pos : 0 < 2 ^ (8 * 0 + k) = pow_pos (8 * 0 + k) in omega (arith, pos)
moved_lt k (suc n) f lt =
    let before = moved_lt k n f (λ i h. lt i (omega arith)) in
    let wider : 2 ^ k ≤ 2 ^ (8 * n + k) = pow-le-pow_right (pow_pos 1) (omega arith) in
    let last : f n < 2 ^ (8 * n + k) = omega (arith, lt n (omega arith)) in
    let both : moved_sum (suc n) f < 2 ^ (8 * n + k) = xor_lt (8 * n + k) (moved_sum n f * 2 ^ 8) (f n) before last in
    let e : 8 * n + k + 8 ≡ 8 * suc n + k = omega arith in
    subst (λ (m : ℕ). moved_sum (suc n) f * 2 ^ 8 < 2 ^ m) e (shl_below (moved_sum (suc n) f) (8 * n + k) 8 both)

-- ---- octets

power_of_octets : (k : ℕ) → 256 ^ k ≡ 2 ^ (8 * k)
power_of_octets zero = refl
power_of_octets (suc k) =
    let e : 8 * k + 8 ≡ 8 * suc k = omega arith in
    pow-suc 256 k ∙ ap (λ (n : ℕ). n * 256) (power_of_octets k) ∙ sym (pow-add 2 (8 * k) 8) ∙ ap (λ (n : ℕ). 2 ^ n) e

pub octet_is : (j z : ℕ) → byte_at j z ≡ z / 2 ^ (8 * j) % 2 ^ 8
octet_is zero z = let e : z % 256 ≡ z / 2 ^ (8 * 0) % 2 ^ 8 = omega arith in e
octet_is (suc j) z = ap (λ (n : ℕ). z / n % 256) (power_of_octets (suc j))

pub octet_lt : (j z : ℕ) → byte_at j z < 2 ^ 8
octet_lt j z = rw octet_is (omega arith)

pub octets_keep : (j : ℕ) → KeepsSums (byte_at j)
octets_keep j = record {
  adds = λ a b.
      octet_is j (bit_xor a b) ∙ ap (λ (n : ℕ). n % 2 ^ 8) (xor_shr a b (8 * j)) ∙ xor_mod (a / 2 ^ (8 * j)) (b / 2 ^ (8 * j)) 8
      ∙ ap₂ bit_xor (sym (octet_is j a)) (sym (octet_is j b));
  none = let le : 0 / 2 ^ (8 * j) ≤ 0 = shr_le 0 (8 * j) in octet_is j 0 ∙ omega arith;
}

octets_above : (l z : ℕ) → z < 2 ^ (8 * suc l) → (t : ℕ) → t ≤ suc l → moved_sum t (λ i. byte_at (l - i) z) ≡ z / 2 ^ (8 * (suc l - t))
unfolding moved_sum
octets_above l z lt zero le =
    let e : 8 * suc l ≡ 0 + 8 * suc l = omega arith in
    let small : z / 2 ^ (8 * suc l) < 2 ^ 0 = shr_below z 0 (8 * suc l) (subst (λ (m : ℕ). z < 2 ^ m) e lt) in
    let same : 8 * (suc l - 0) ≡ 8 * suc l = omega arith in
    let none : z / 2 ^ (8 * suc l) ≡ 0 = omega (arith, small) in
    sym (ap (λ (m : ℕ). z / 2 ^ m) same ∙ none)
octets_above l z lt (suc t) le =
    let k : ℕ = l - t in
    let here : 8 * (suc l - t) ≡ 8 * k + 8 = omega arith in
    let next : 8 * (suc l - suc t) ≡ 8 * k = omega arith in
    let before = octets_above l z lt t (omega arith) ∙ ap (λ (n : ℕ). z / 2 ^ n) here ∙ sym (shr-shr z (8 * k) 8) in
    ap₂ (λ (x y : ℕ). bit_xor (x * 2 ^ 8) y) before (octet_is k z)
    ∙ sym (parts 8 (z / 2 ^ (8 * k) / 2 ^ 8) (z / 2 ^ (8 * k) % 2 ^ 8) (omega arith))
    ∙ shr_split (z / 2 ^ (8 * k)) 8
    ∙ sym (ap (λ (n : ℕ). z / 2 ^ n) next)

-- the octets of a number, starting at the left
pub octets_joined : (l z : ℕ) → z < 2 ^ (8 * suc l) → moved_sum (suc l) (λ i. byte_at (l - i) z) ≡ z
octets_joined l z lt =
    let none : 8 * (suc l - suc l) ≡ 0 = omega arith in
    let whole : z / 2 ^ 0 ≡ z = omega arith in
    octets_above l z lt (suc l) (omega arith) ∙ ap (λ (n : ℕ). z / 2 ^ n) none ∙ whole

-- ---- a number of 32 octets, shifted by one octet

-- the first of 16 octets of a number, and the others
octets_apart : (f : ℕ → ℕ) → ((i : ℕ) → i < 16 → f i < 2 ^ 8)
    → (moved_sum 16 f ≡ f 0 * 2 ^ 120 + moved_sum 15 (λ i. f (suc i))) × (moved_sum 15 (λ i. f (suc i)) < 2 ^ 120)
octets_apart f lt =
    let rest : ℕ = moved_sum 15 (λ i. f (suc i)) in
    let room : rest * 2 ^ 8 < 2 ^ 128 = moved_lt 8 15 (λ i. f (suc i)) (λ i h. lt (suc i) (omega arith)) in
    let small : rest < 2 ^ 120 = omega (arith, room) in
    (moved_first 15 f ∙ sym (parts 120 (f 0) rest small), small)

-- the octets without the first one, with one octet appended and sums added
next_octets : (k : ℕ) (f s g : ℕ → ℕ) (last : ℕ) → ((i : ℕ) → i < k → g i ≡ bit_xor (f (suc i)) (s i)) → g k ≡ bit_xor last (s k)
    → moved_sum (suc k) g ≡ bit_xor (bit_xor (moved_sum k (λ i. f (suc i)) * 2 ^ 8) last) (moved_sum (suc k) s)
unfolding moved_sum
next_octets k f s g last inner end =
    let rest : ℕ = moved_sum k (λ i. f (suc i)) in
    ap₂ (λ (x y : ℕ). bit_xor (x * 2 ^ 8) y) (same_moved k g (λ i. bit_xor (f (suc i)) (s i)) inner ∙ moved_of_sums k (λ i. f (suc i)) s) end
    ∙ ap (λ (x : ℕ). bit_xor x (bit_xor last (s k))) ((moves_keep 8).adds rest (moved_sum k s))
    ∙ xor_swap (rest * 2 ^ 8) (moved_sum k s * 2 ^ 8) last (s k)

next_octet : (k : ℕ) (f g : ℕ → ℕ) → ((i : ℕ) → i < k → g i ≡ f (suc i)) → moved_sum (suc k) g ≡ bit_xor (moved_sum k (λ i. f (suc i)) * 2 ^ 8) (g k)
unfolding moved_sum
next_octet k f g inner = ap (λ (x : ℕ). bit_xor (x * 2 ^ 8) (g k)) (same_moved k g (λ i. f (suc i)) inner)

pub octets_moved : (l r s m n : ℕ → ℕ)
    → ((i : ℕ) → i < 16 → l i < 2 ^ 8) → ((i : ℕ) → i < 16 → r i < 2 ^ 8) → ((i : ℕ) → i < 16 → s i < 2 ^ 8)
    → ((i : ℕ) → i < 15 → m i ≡ l (suc i)) → m 15 ≡ r 0
    → ((i : ℕ) → i < 15 → n i ≡ bit_xor (r (suc i)) (s i)) → n 15 ≡ bit_xor 0 (s 15)
    → (moved_sum 16 l * 2 ^ 128 + moved_sum 16 r) * 2 ^ 8 < 2 ^ 256
    → moved_sum 16 m * 2 ^ 128 + moved_sum 16 n ≡ bit_xor ((moved_sum 16 l * 2 ^ 128 + moved_sum 16 r) * 2 ^ 8) (moved_sum 16 s)
octets_moved l r s m n l_lt r_lt s_lt inner_left end_left inner_right end_right room =
    let left : ℕ = moved_sum 16 l in
    let right : ℕ = moved_sum 16 r in
    let sums : ℕ = moved_sum 16 s in
    let left_rest : ℕ = moved_sum 15 (λ i. l (suc i)) in
    let right_rest : ℕ = moved_sum 15 (λ i. r (suc i)) in
    let left_apart = octets_apart l l_lt in
    let right_apart = octets_apart r r_lt in
    let left_small : left < 2 ^ 120 = omega (arith, room) in
    let left_same : left ≡ left_rest = omega (arith, left_apart.0, left_small) in
    let sums_room : sums * 2 ^ 8 < 2 ^ 136 = moved_lt 8 16 s s_lt in
    let sums_lt : sums < 2 ^ 128 = omega (arith, sums_room) in
    let first_lt : r 0 < 2 ^ 8 = r_lt 0 (omega arith) in
    let new : ℕ = left_rest * 2 ^ 8 + r 0 in
    let new_left : moved_sum 16 m ≡ new =
    next_octet 15 l m inner_left ∙ ap (bit_xor (left_rest * 2 ^ 8)) end_left ∙ sym (parts 8 left_rest (r 0) first_lt) in
    let new_right : moved_sum 16 n ≡ bit_xor (right_rest * 2 ^ 8) sums =
    next_octets 15 r s n 0 inner_right end_right ∙ ap (λ (x : ℕ). bit_xor x sums) (xor_zero_r (right_rest * 2 ^ 8)) in
    let whole : (left * 2 ^ 128 + right) * 2 ^ 8 ≡ new * 2 ^ 128 + right_rest * 2 ^ 8 = omega (arith, left_same, right_apart.0) in
    let behind : 0 * 2 ^ 128 + sums ≡ sums = omega arith in
    ap₂ (λ (x y : ℕ). x * 2 ^ 128 + y) (new_left ∙ sym (xor_zero_r new)) new_right
    ∙ sym (xor_block 128 new 0 (right_rest * 2 ^ 8) sums (omega (arith, right_apart.1)) sums_lt)
    ∙ ap₂ bit_xor (sym whole) behind

moved_next : (n : ℕ) (f : ℕ → ℕ) → moved_sum (n + 1) f ≡ bit_xor (moved_sum n f * 2 ^ 8) (f n)
unfolding moved_sum
moved_next n f = let e : n + 1 ≡ suc n = omega arith in ap (λ (m : ℕ). moved_sum m f) e

-- a number in two vectors that is such a sum, after one more of 17 turns
pub moved_on : (from turn : ℕ) (left right sums new_left new_right : List ℕ) (column : ℕ → ℕ) → turn < 17 → ((t : ℕ) → column t < 2 ^ 128)
    → IsMoved from left right sums new_left new_right → number_in from left right ≡ moved_sum turn column → number_from from sums ≡ column turn
    → number_in from new_left new_right ≡ moved_sum (turn + 1) column
moved_on from turn left right sums new_left new_right column few small moved before here =
    let lt : moved_sum turn column * 2 ^ 8 < 2 ^ (8 * turn + 128) = moved_lt 128 turn column (λ t h. small t) in
    let wide : 2 ^ (8 * turn + 128) ≤ 2 ^ 256 = pow-le-pow_right (pow_pos 1) {i = 8 * turn + 128} {j = 256} (omega arith) in
    let room : number_in from left right * 2 ^ 8 < 2 ^ 256 = omega (arith, lt, wide, before) in
    moved room ∙ ap₂ (λ (x y : ℕ). bit_xor (x * 2 ^ 8) y) before here ∙ sym (moved_next turn column)

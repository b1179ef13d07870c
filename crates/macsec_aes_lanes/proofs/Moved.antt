-- ShiftRows several times.
use Rattle.macsec_aes_lanes.proofs.{
  Names.{◌%◌, ◌*◌, ◌+◌, ◌-◌, ◌/◌, ◌<◌, ◌∙◌, ◌≡◌, ◌≤◌, AreAll, AreAllMoved, add_round_key, ap, arith, block_of, byte_of},
  Names.{lane_of, List, map, moves_left, range_with_len, refl, rows_moved, shift_rows, slice_index, sub_bytes, subst},
  Names.{suc},
  Names.{sym, unmoved_rows_below, with_constant, zero, ℕ},
  Below.{below_four, same_below},
  Octets.byte_of_block,
}
use Rattle.std.proofs.Common.{add-one}
use mathlib.Core.Bool.{Bool, true, false}
use Rattle.std.specs.Prelude.{if◌then◌else◌}

-- ---- what ShiftRows commutes with

shifted_bytes : (s : List ℕ) → shift_rows (with_constant (sub_bytes s)) ≡ with_constant (sub_bytes (shift_rows s))
unfolding shift_rows with_constant sub_bytes
shifted_bytes s = refl

shifted_sum : (s key : List ℕ) → shift_rows (add_round_key s key) ≡ add_round_key (shift_rows s) (shift_rows key)
unfolding shift_rows add_round_key
shifted_sum s key = refl

moved_bytes : (n : ℕ) (s : List ℕ) → rows_moved n (with_constant (sub_bytes s))
    ≡ with_constant (sub_bytes (rows_moved n s))
unfolding rows_moved
moved_bytes zero s = refl
moved_bytes (suc n) s = ap shift_rows (moved_bytes n s) ∙ shifted_bytes (rows_moved n s)

pub moved_sum : (n : ℕ) (s key : List ℕ) → rows_moved n (add_round_key s key)
    ≡ add_round_key (rows_moved n s) (rows_moved n key)
unfolding rows_moved
moved_sum zero s key = refl
moved_sum (suc n) s key = ap shift_rows (moved_sum n s key) ∙ shifted_sum (rows_moved n s) (rows_moved n key)

-- SubBytes before ShiftRows
pub moved_once_more : (n : ℕ) (s : List ℕ) → 0 < n → rows_moved n (with_constant (sub_bytes s))
    ≡ shift_rows (with_constant (sub_bytes (rows_moved (n - 1) s)))
unfolding rows_moved
moved_once_more zero s some = absurd (omega arith)
moved_once_more (suc n) s some =
    let before : suc n - 1 ≡ n = omega arith in
    rw before (ap shift_rows (moved_bytes n s))

-- ---- bytes after it

-- the byte that ShiftRows n times moves to byte m
abbrev pub from : ℕ → ℕ → ℕ
from n m = m % 4 + 4 * ((m / 4 + n * (m % 4)) % 4)

pub bytes_moved : (n : ℕ) → n ≤ 4 → (f : ℕ → ℕ) → rows_moved n (map f (range_with_len 0 16))
    ≡ map (λ m. f (from n m)) (range_with_len 0 16)
unfolding rows_moved shift_rows
bytes_moved zero h f = refl
bytes_moved (suc zero) h f = refl
bytes_moved (suc (suc zero)) h f = refl
bytes_moved (suc (suc (suc zero))) h f = refl
bytes_moved (suc (suc (suc (suc zero)))) h f = refl
bytes_moved (suc (suc (suc (suc (suc n))))) h f = absurd (omega arith)

-- once more than n times
pub moved_again : (n : ℕ) (s : List ℕ) → rows_moved (n + 1) s ≡ shift_rows (rows_moved n s)
unfolding rows_moved
moved_again n s = rw add-one refl

pub not_moved : (s : List ℕ) → rows_moved 0 s ≡ s
unfolding rows_moved
not_moved s = refl

-- four times move no row of a block
pub moved_back : (f : ℕ → ℕ) → rows_moved 4 (map f (range_with_len 0 16)) ≡ map f (range_with_len 0 16)
moved_back f = bytes_moved 4 (omega arith) f

-- ---- lanes

-- the byte n rows below byte m
abbrev pub below : ℕ → ℕ → ℕ
below n m = (m % 4 + n) % 4 + 4 * (m / 4)

-- the entry r rows below in its column, once the rows are moved n times
pub lane_below : (r n m : ℕ) → r < 4 → n ≤ 4 → m < 16 → lane_of (from n (below r m))
    ≡ unmoved_rows_below n r (lane_of (from n m))
lane_below r n m lr ln lm =
    let x : ℕ = 16 * (5 * r + n) + m in
    let mm : x % 16 ≡ m = omega arith in
    let nn : x / 16 % 5 ≡ n = omega arith in
    let rr : x / 16 / 5 ≡ r = omega arith in
    rw (mm, nn, rr) at (same_below (λ x. lane_of (from (x / 16 % 5) (below (x / 16 / 5) (x % 16))))
    (λ x. unmoved_rows_below (x / 16 % 5) (x / 16 / 5) (lane_of (from (x / 16 % 5) (x % 16)))) 320 refl x (omega arith))

pub from-lt : (n m : ℕ) → m < 16 → from n m < 16
from-lt n m lt =
    let last : (m / 4 + n * (m % 4)) % 4 < 4 = omega arith in
    omega (arith, last)

pub row-lt : (n r j : ℕ) → unmoved_rows_below n r j < 16
row-lt n r j =
    let last : (j % 4 + n * r) % 4 < 4 = omega arith in
    omega (arith, last)

-- the next row after the second one is the third one
pub third_row : (n j : ℕ) → n ≤ 4 → j < 16 → unmoved_rows_below n 1 (unmoved_rows_below n 2 j)
    ≡ unmoved_rows_below n 3 j
third_row n j ln lj = omega arith

-- ---- round keys

pub in_place : (p : List (List ℕ)) (block : List ℕ) → AreAllMoved 0 p block → AreAll p block
unfolding rows_moved
in_place p block all k lk m lm = sym (byte_of_block p k m lm) ∙ ap (λ (b : List ℕ). slice_index b m) (all k lk)

pub in_rows : (wide : Bool) (r : ℕ) (p : List (List ℕ)) (block : List ℕ) → wide ≡ false
    → AreAllMoved (moves_left wide r) p block → AreAll p block
in_rows wide r p block e all = in_place p block (subst (λ (w : Bool). AreAllMoved (moves_left w r) p block) e all)

-- four times are as good as none
around : (n : ℕ) → n ≤ 4 → (f : ℕ → ℕ) → rows_moved (n % 4) (map f (range_with_len 0 16))
    ≡ rows_moved n (map f (range_with_len 0 16))
around zero h f = refl
around (suc zero) h f = refl
around (suc (suc zero)) h f = refl
around (suc (suc (suc zero))) h f = refl
around (suc (suc (suc (suc zero)))) h f = not_moved (map f (range_with_len 0 16)) ∙ sym (moved_back f)
around (suc (suc (suc (suc (suc n))))) h f = absurd (omega arith)

-- the round key of round r, for states whose rows ShiftRows has yet to move n times
pub key_moved : (wide : Bool) (r n : ℕ) (p : List (List ℕ)) (block : List ℕ) → wide ≡ true → r % 4 ≡ n % 4 → n ≤ 4
    → AreAllMoved (moves_left wide r) p block → AreAllMoved n p block
key_moved wide r n p block e same most all k lk =
    sym (around n most (byte_of p k))
    ∙ subst (λ (i : ℕ). rows_moved i (block_of p k) ≡ block) same
    (subst (λ (w : Bool). AreAllMoved (moves_left w r) p block) e all k lk)

-- the rows of a round key are moved, or moved back
pub moved_or_back : (wide : Bool) (r : ℕ) (f : ℕ → ℕ)
    → rows_moved (moves_left wide r) (rows_moved (if wide then 3 * r % 4 else r % 4) (map f (range_with_len 0 16)))
    ≡ rows_moved (if wide then 0 else r % 4) (map f (range_with_len 0 16))
unfolding rows_moved shift_rows
moved_or_back false r f = refl
moved_or_back true r f =
    let times : 3 * r % 4 ≡ 3 * (r % 4) % 4 = omega arith in
    rw times (below_four (λ q. rows_moved q (rows_moved (3 * q % 4) (map f (range_with_len 0 16)))
    ≡ map f (range_with_len 0 16))
    refl refl refl refl (r % 4) (omega arith))

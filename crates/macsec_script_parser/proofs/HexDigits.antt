-- A number of up to 16 hex digits fits into 64 bits.
use Rattle.std.proofs.{Common.{ℕ, ◌+◌, ◌*◌, ◌^◌, ◌≤◌, ◌<◌, arith, suc}, Math.Nat.{pow-suc, pow-le-pow_right}}

power_more : (i : ℕ) → i < 16 → (16 ^ i) * 16 ≤ 2 ^ 64
power_more i below =
    let bound : 16 ^ suc i ≤ 16 ^ 16 = let fits : suc i ≤ 16 = omega arith in pow-le-pow_right {n = 16} (omega arith) fits in
    rw (← pow-suc 16 i) bound

pub digit_more : (n value i : ℕ) → n < 16 ^ i → value < 16 → i < 16 → n * 16 + value < 2 ^ 64
digit_more n value i fits digit below = omega (arith, power_more i below)

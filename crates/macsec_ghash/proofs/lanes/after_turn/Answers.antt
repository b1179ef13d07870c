-- The numbers so far are moved, and the sums of one octet are added.
use Rattle.std.proofs.Common.{ℕ, List, ◌+◌, ◌-◌, ◌*◌, ◌^◌, ◌<◌, arith}
use Rattle.macsec_ghash.{
  proofs.{MovedSums.{moved_lt, moved_on, same_moved}, Sums.sum_lt},
  specs.Tables.{lane_at, moved_sum, octet_of_sum},
}
use Rattle.macsec_ghash.proofs.lanes.after_turn.Goals as goal

-- the sums of one turn
abbrev column : List ℕ → List (List ℕ) → ℕ → ℕ → ℕ
column tables nibbles from t = moved_sum 16 (λ i. octet_of_sum tables (16 - t) (λ p. lane_at nibbles p (from + i)))

pub returns-clause-first : goal.returns-clause-first
returns-clause-first c =
    let tables : List ℕ = c.args.tables.now in
    let sums : ℕ → ℕ = column tables c.args.nibbles.now 0 in
    let small : (t : ℕ) → sums t < 2 ^ 128 =
    λ t.
    let moved : sums t * 2 ^ 8 < 2 ^ 136 = moved_lt 8 16 _ (λ i h. sum_lt 8 8 _ (λ p g. c.fits-tables _)) in
    omega (arith, moved) in
    moved_on 0 c.args.turn c.args.left c.args.right c.octets_of_sums-sums.result c.moved.result.0 c.moved.result.1 sums
    (omega arith) small c.moved.ensures.first c.requires.first
    (same_moved 16 _ _ (λ i h. c.octets_of_sums-sums.ensures (0 + i) (omega arith)))

pub returns-clause-second : goal.returns-clause-second
returns-clause-second c =
    let tables : List ℕ = c.args.tables.now in
    let sums : ℕ → ℕ = column tables c.args.nibbles.now 16 in
    let small : (t : ℕ) → sums t < 2 ^ 128 =
    λ t.
    let moved : sums t * 2 ^ 8 < 2 ^ 136 = moved_lt 8 16 _ (λ i h. sum_lt 8 8 _ (λ p g. c.fits-tables _)) in
    omega (arith, moved) in
    moved_on 16 c.args.turn c.args.left c.args.right c.octets_of_sums-sums.result c.moved.result.0 c.moved.result.1 sums
    (omega arith) small c.moved.ensures.second c.requires.second
    (same_moved 16 _ _ (λ i h. c.octets_of_sums-sums.ensures (16 + i) (omega arith)))

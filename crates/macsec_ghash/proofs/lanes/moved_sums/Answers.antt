-- The first turn starts with zeros. Each step of the loop takes two more.
use Rattle.std.proofs.Common.{◌≡◌, ℕ, ◌+◌, ◌*◌, refl, subst, arith}
use Rattle.macsec_ghash.specs.Tables.{IsAfter, moved_sum}
use Rattle.macsec_ghash.proofs.lanes.moved_sums.Goals as goal

pub after_turn-requires-clause-first : goal.after_turn-requires-clause-first
unfolding moved_sum
after_turn-requires-clause-first c = refl

pub after_turn-requires-clause-second : goal.after_turn-requires-clause-second
unfolding moved_sum
after_turn-requires-clause-second c = refl

pub loop-pair-preserved : goal.loop-pair-preserved
loop-pair-preserved c =
    let turns : 2 * c.loop-pair.pair + 1 + 1 + 1 ≡ 2 * (c.loop-pair.pair + 1) + 1 = omega arith in
    let after = c.after_two_turns in
    let tables = c.args.tables.now in
    let nibbles = c.args.nibbles.now in
    record {
      first = subst (λ (n : ℕ). IsAfter n 0 tables nibbles after.result.0 after.result.1) turns after.ensures.first;
      second = subst (λ (n : ℕ). IsAfter n 16 tables nibbles after.result.0 after.result.1) turns after.ensures.second;
    }

use Rattle.std.specs.Prelude.{if◌then◌else◌}
use Rattle.macsec_aes_lanes.proofs.{
  Names.{◌%◌, ◌*◌, ◌<◌, ◌∙◌, ◌≡◌, ap, arith, block_of, cases_lt, inl, inr, length, length-set, List, refl, rows_moved},
  Names.{sym, ℕ},
  RoundKeysAt.{planes_at, set_at, set_elsewhere},
}
use Rattle.macsec_aes_lanes.proofs.schedule.RoundKey.move_rows.Goals as goal
use Rattle.macsec_aes_lanes.proofs.schedule.RoundKey.move_rows.Goals.{then-wide, else-wide}

pub loop-round-preserved : goal.loop-round-preserved
loop-round-preserved c =
    let keys = c.loop-round.round_keys in
    let i = c.loop-round.round in
    let inside : i < length keys = omega (arith, c.loop-round.invariant.long, c.told-round_keys) in
    let times : c.if-wide.times ≡ (if c.args.wide then 3 * i % 4 else i % 4) = elim c.if-wide.branch [
      | then-wide w ↦ rw (w.times-is, w.if-wide.true) refl
      | else-wide w ↦ rw (w.times-is, w.if-wide.false) refl
    ] in
    record {
      long = length-set keys i c.moved.result ∙ c.loop-round.invariant.long;
      done = λ r before k lk. elim (cases_lt r i) [
        | inl less ↦
            ap (λ (p : List (List ℕ)). block_of p k)
            (set_elsewhere keys c.moved.result i r (λ same. absurd (omega (arith, same, less))))
            ∙ c.loop-round.invariant.done r less k lk
        | inr last ↦
            let at : r ≡ i = omega arith in
            rw (at, ← times)
            (ap (λ (p : List (List ℕ)). block_of p k) (set_at keys c.moved.result i inside)
            ∙ c.moved.ensures k lk
            ∙ ap (λ (p : List (List ℕ)). rows_moved c.if-wide.times (block_of p k))
            (sym (planes_at keys i _ inside) ∙ c.loop-round.invariant.left i (omega arith)))
      ];
      left = λ r after.
          set_elsewhere keys c.moved.result i r (λ same. absurd (omega (arith, same, after)))
          ∙ c.loop-round.invariant.left r (omega (arith, after));
    }

pub returns : goal.returns
returns c = record {
  long = c.loop-round.invariant.long;
  each = λ r inside. c.loop-round.invariant.done r
      (omega (arith, inside, c.told-round_keys, c.loop-round.auto.round-end, c.loop-round-test.false));
}

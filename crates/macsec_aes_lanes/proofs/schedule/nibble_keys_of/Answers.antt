use Rattle.macsec_aes_lanes.proofs.{
  Names.{[], ◌<◌, ◌∙◌, ◌≡◌, ◌≢◌, arith, get_or-set_other, get_or-set_same, kept_round_key, length-set, refl, rounds_of},
  Names.{rules, schedule_of, slice_index_or, slice_set, state_of, subst, sym, ℕ},
  ConstantKept.{kept_first, kept_from_one},
  NibbleKeys.{one_more_state, state_of_key},
}
use Rattle.macsec_aes_lanes.proofs.schedule.nibble_keys_of.Goals as goal

pub loop-round-init : goal.loop-round-init
loop-round-init c =
    let ws = schedule_of c.args.schedule.now in
    let first : state_of c.representing_key-keys.result ≡ kept_round_key ws 0 =
    state_of_key ws 0 c.round_key.result c.representing_key-keys.result (c.round_key.ensures ∙ sym (kept_first ws)) c.representing_key-keys.ensures in
    record {
      long = refl;
      each = λ r before. let at : r ≡ 0 = omega arith in rw at first;
    }

pub loop-round-preserved : goal.loop-round-preserved
loop-round-preserved c =
    let keys = c.loop-round.keys in
    let round = c.loop-round.round in
    let ws = schedule_of c.args.schedule.now in
    let kept : c.with_constant.result ≡ kept_round_key ws round =
    c.with_constant.ensures ∙ rw (c.round_key-round_key.ensures) (sym (kept_from_one ws round (omega arith))) in
    record {
      long = length-set keys round c.representing_key.result ∙ c.loop-round.invariant.long;
      each = one_more_state keys c.representing_key.result (kept_round_key ws) round (search rules) c.loop-round.invariant.each
          (state_of_key ws round c.with_constant.result c.representing_key.result kept c.representing_key.ensures);
    }

pub returns : goal.returns
returns c =
    let keys = c.loop-round.keys in
    let rounds = c.rounds-rounds.result in
    let ws = schedule_of c.args.schedule.now in
    let count : rounds ≡ rounds_of c.args.schedule.now = c.rounds-rounds.ensures in
    let some : 0 < rounds = omega (arith, count) in
    record {
      long = length-set keys rounds c.with_constant-2.result ∙ c.loop-round.invariant.long;
      each = λ r lt.
          let other : r ≢ rounds = λ same. absurd (omega (arith, count, same)) in
          rw (get_or-set_other keys rounds r c.with_constant-2.result [] other)
          (c.loop-round.invariant.each r (omega (arith, count)));
      last = subst (λ (r : ℕ). slice_index_or (slice_set keys rounds c.with_constant-2.result) r [] ≡ kept_round_key ws r) count
          (get_or-set_same keys rounds c.with_constant-2.result [] (omega (arith, c.loop-round.invariant.long, count, c.requires))
          ∙ c.with_constant-2.ensures ∙ rw (c.round_key-2.ensures) (sym (kept_from_one ws rounds some)));
    }

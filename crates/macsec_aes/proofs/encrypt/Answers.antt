-- The state after each round is as defined, and the block after the last round is `aes`. Proved from the loop's
-- invariant: one more round is one more step of `after_rounds`.
use Rattle.{
  std.proofs.Common.{◌≡◌, ◌+◌, ◌-◌, arith, rules, sym, refl},
  macsec_aes.{proofs.Expansion.after_rounds_next, specs.Aes.{aes, after_rounds, schedule_of}},
}
use Rattle.macsec_aes.proofs.encrypt.Goals as goal

pub loop-round-init : goal.loop-round-init
unfolding after_rounds
loop-round-init c = search rules

pub loop-round-preserved : goal.loop-round-preserved
loop-round-preserved c =
    let ws = schedule_of c.args.schedule.now in
    let at : c.loop-round.round - 1 + 1 ≡ c.loop-round.round = omega arith in
    let next = rw at at (after_rounds_next ws c.args.block (c.loop-round.round - 1)) in
    let now : c.loop-round.round + 1 - 1 ≡ c.loop-round.round = omega arith in
    rw (c.full_round-next.ensures, c.round_key-in-loop-round.ensures, c.loop-round.invariant, now)
    (sym next)

pub returns : goal.returns
unfolding aes
returns c =
    let done : c.loop-round.round ≡ c.rounds-rounds.result = omega (arith, c.loop-round.auto.round-end (omega arith)) in
    rw (c.last_round.ensures, c.round_key-2.ensures, c.loop-round.invariant, done, c.rounds-rounds.ensures)
    refl

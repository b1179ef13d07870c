use Rattle.macsec_aes_lanes.proofs.{
  Names.{◌∙◌, ◌≡◌, ap, arith, block_of, List, planes_of, rows_moved, shift_rows, sym, ℕ},
  Moved.{moved_again, not_moved},
}
use Rattle.macsec_aes_lanes.proofs.schedule.RoundKey.moved.Goals as goal

pub loop-done-init : goal.loop-done-init
loop-done-init c k lk = sym (not_moved (block_of (planes_of c.args.self.now) k))

pub loop-done-preserved : goal.loop-done-preserved
loop-done-preserved c k lk =
    c.shift_rows.ensures k lk
    ∙ ap (λ (p : List (List ℕ)). shift_rows (block_of p k)) c.planes.ensures
    ∙ ap shift_rows (c.loop-done.invariant k lk)
    ∙ sym (moved_again c.loop-done._done (block_of (planes_of c.args.self.now) k))

pub returns : goal.returns
returns c k lk =
    let all : c.loop-done._done ≡ c.args.times = omega (arith, c.loop-done.auto._done-end) in
    c.loop-done.invariant k lk ∙ ap (λ (n : ℕ). rows_moved n (block_of (planes_of c.args.self.now) k)) all

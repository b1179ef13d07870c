use Rattle.std.proofs.{
  Common.{◌≡◌, ◌≤◌, ◌+◌, ℕ, List, [], ◌∷◌, ◌++◌, length, set, take, ap, sym, ◌∙◌, arith, length-set, take_all},
  lemmas.List.take_more_set,
}
use Rattle.macsec_ghash.{proofs.Tails.hash_after_next, specs.Ghash.hash_after}
use Rattle.macsec_ghash.proofs.lane_hash.RunningHash.push.Goals as goal

pub returns-else-self-lt7 : goal.returns-else-self-lt7
returns-else-self-lt7 c =
    let s = c.args.self.now in
    let h : ℕ = c.args.powers.now in
    let n : ℕ = s.waiting_count in
    let x : ℕ = c.args.block.0 in
    let whole : length (set s.waiting n x) ≤ n + 1 = omega (arith, length-set s.waiting n x) in
    let all : set s.waiting n x ≡ take n s.waiting ++ x ∷ [] = sym (take_all (n + 1) (set s.waiting n x) whole) ∙ take_more_set s.waiting n x (omega arith) in
    rw c.after_eight.ensures.none
    (c.after_eight.ensures.hash
    ∙ ap (λ (xs : List ℕ). hash_after h s.sum.0 xs) all
    ∙ hash_after_next h s.sum.0 x (take n s.waiting))

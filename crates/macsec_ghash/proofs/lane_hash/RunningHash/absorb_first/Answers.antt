use Rattle.{
  std.proofs.{Common.{◌≡◌, ◌∙◌, ℕ, List, ap, arith, drop, sym, take}, lemmas.Grind.fold-append},
  macsec_ghash.{proofs.Blocks.{pad_first, pad_more}, specs.Ghash.{blocks_of, hash_after, hash_next, pad}},
}
use Rattle.macsec_ghash.proofs.lane_hash.RunningHash.absorb_first.Goals as goal

pub returns-then-self-eq0-clause-hash : goal.returns-then-self-eq0-clause-hash
returns-then-self-eq0-clause-hash c =
    let h : ℕ = c.args.powers.now in
    let s = c.args.self.now in
    let bytes : List ℕ = c.args.bytes.now in
    let none : s.waiting_count ≡ 0 = omega arith in
    rw (c.absorb_eight.ensures.none, none)
    (ap (λ (y : ℕ). hash_after h y (pad (drop 128 bytes))) c.absorb_eight.ensures.hash
    ∙ sym (fold-append (hash_next h) s.sum.0 (blocks_of 8 bytes) (pad (drop 128 bytes)))
    ∙ ap (λ (xs : List ℕ). hash_after h s.sum.0 xs) (sym (pad_more 8 bytes (omega arith))))

pub returns-clause-hash : goal.returns-clause-hash
returns-clause-hash c =
    let h : ℕ = c.args.powers.now in
    let s = c.args.self.now in
    let bytes : List ℕ = c.args.bytes.now in
    let hash : ℕ = hash_after h s.sum.0 (take s.waiting_count s.waiting) in
    ap (λ (y : ℕ). hash_after h y (pad (drop 16 bytes))) (c.push.ensures ∙ ap (hash_next h hash) c.block_of.ensures)
    ∙ ap (λ (xs : List ℕ). hash_after h hash xs) (sym (pad_first bytes (omega arith)))

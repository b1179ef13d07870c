use Rattle.{
  std.{
    proofs.{
      Common.{◌≡◌, ◌++◌, ◌+◌, ◌-◌, ◌/◌, ◌<◌, ◌∙◌, ◌∷◌, ℕ, List, [], ap, append-nil, arith, drop, length, refl},
      Common.{replicate},
      Common.{length-take-le, rules, sym, take, take_all},
      lemmas.List.drop-replicate,
    },
    specs.Int.{w128, from_be_bytes},
  },
  macsec_ghash.specs.Ghash.{block_of, blocks_of, pad},
  macsec_gcm.proofs.States.hashing_ended,
}
use Rattle.macsec_gcm.proofs.hash.PaddedHash.end_text.Goals as goal

-- a part of a block, filled with zeros
pad_part : (n : ℕ) (xs : List ℕ) → length xs ≡ n → 0 < n → n < 16 → pad xs ≡ from_be_bytes w128 (xs ++ drop n
    (replicate 16 0)) ∷ []
unfolding pad blocks_of block_of
pad_part n xs long some lt =
    let one : (length xs + 15) / 16 ≡ 1 = omega arith in
    let all : take 16 xs ≡ xs = take_all 16 xs (omega arith) in
    let zeros : drop n (replicate 16 0) ≡ replicate (16 - length xs) 0 =
    drop-replicate {X = ℕ} n 16 0 ∙ ap (λ (m : ℕ). replicate (16 - m) 0) (sym long) in
    ap (λ (m : ℕ). blocks_of m xs) one
    ∙ ap (λ (ys : List ℕ). block_of ys ∷ []) all
    ∙ ap (λ (zs : List ℕ). from_be_bytes w128 (xs ++ zs) ∷ []) (sym zeros)

pub returns : goal.returns
returns c = λ h blocks text at.
    let s = c.args.self.now in
    let n : ℕ = s.waiting_count in
    let rest : List ℕ = take n s.waiting in
    let room : length s.waiting ≡ 16 = search rules in
    let block : pad rest ≡ c.from_be_bytes.result ∷ [] =
    pad_part n rest (length-take-le n s.waiting (omega arith)) (omega arith) (omega arith)
    ∙ ap (λ (x : ℕ). x ∷ [])
    (sym (c.from_be_bytes.ensures ∙ ap (λ (bytes : List ℕ). from_be_bytes w128 (bytes ++ drop n
    (replicate 16 0))) c.copy_from_slice.ensures.after)) in
    hashing_ended s _ h blocks text at refl refl (rw block (c.absorb_block.ensures _ at.hashed))

-- no octets are waiting
pub returns-then-self-eq0 : goal.returns-then-self-eq0
unfolding pad blocks_of
returns-then-self-eq0 c = λ h blocks text at.
    let s = c.args.self.now in
    let none : s.waiting_count ≡ 0 = omega arith in
    let before : List ℕ = blocks ++ pad at.whole in
    let nothing : before ++ pad (take s.waiting_count s.waiting) ≡ before =
    ap (λ (n : ℕ). before ++ pad (take n s.waiting)) none ∙ append-nil before in
    hashing_ended s s h blocks text at none refl (rw nothing at.hashed)

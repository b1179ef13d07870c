use Rattle.{
  std.{
    proofs.{
      Common.{
        ◌≡◌,
        ◌++◌,
        ◌+◌,
        ◌-◌,
        ◌/◌,
        ◌%◌,
        ◌^◌,
        ◌<◌,
        List,
        ℕ,
        length,
        get_or,
        drop,
        take,
        ap,
        sym,
        ◌∙◌,
        arith,
        inl,
        inr,
      },
      Common.{get_or-drop, get_or-take, length-append, length-take-le},
      lemmas.{Bool.cases_lt, Grind.same_number_lists, List.{get_or_append_left, get_or-append_right}},
    },
    specs.Int.{w32, from_be_bytes, from_le_bytes, to_be_bytes},
  },
  macsec_gcm.{proofs.CounterLanes.highest_first, specs.Gcm.inc32},
}
use Rattle.macsec_gcm.proofs.counter_blocks.next_block.Goals as goal

pub returns : goal.returns
unfolding inc32
returns c =
    let block : List ℕ = c.args.block in
    let low : List ℕ = c.turned-low_first.result in
    let next : List ℕ = c.add_one-next.result in
    let last : List ℕ = c.turned.result in
    let long : length block ≡ 16 = c.fits-block.0 in
    let front : length (take 12 block) ≡ 12 = length-take-le 12 block (omega (arith, long)) in
    let at : (j : ℕ) → j < 4 → get_or low (12 + j) 0 ≡ get_or block (15 - j) 0 = c.turned-low_first.ensures.reversed in
    let number : from_le_bytes w32 (drop 12 low) ≡ from_be_bytes w32 (drop 12 block) =
    omega (
      arith,
      get_or-drop 12 low 0 0,
      get_or-drop 12 low 1 0,
      get_or-drop 12 low 2 0,
      get_or-drop 12 low 3 0,
      get_or-drop 12 block 0 0,
      get_or-drop 12 block 1 0,
      get_or-drop 12 block 2 0,
      get_or-drop 12 block 3 0,
      at 0 (omega arith),
      at 1 (omega arith),
      at 2 (omega arith),
      at 3 (omega arith),
    ) in
    let count : ℕ = (from_be_bytes w32 (drop 12 block) + 1) % 2 ^ 32 in
    let octets : List ℕ = to_be_bytes w32 count in
    let all : length (take 12 block ++ octets) ≡ 16 = omega (arith, length-append (take 12 block) octets, front) in
    let counted : (j : ℕ) → j < 4 → get_or last (12 + j) 0 ≡ get_or octets j 0 = λ j lt.
    let place : 12 + (3 - j) ≡ 15 - j = omega arith in
    let sum : get_or next (15 - j) 0 ≡ (from_le_bytes w32 (drop 12 low) + 1) % 2 ^ 32 / 256 ^ (3 - j) % 256 =
    ap (λ (k : ℕ). get_or next k 0) (sym place) ∙ c.add_one-next.ensures.counts (3 - j) (omega arith) in
    c.turned.ensures.reversed j lt ∙ sum ∙ ap (λ (n : ℕ). (n + 1) % 2 ^ 32 / 256 ^ (3 - j) % 256) number ∙
    highest_first count j lt in
    same_number_lists last (take 12 block ++ octets) (c.turned.ensures.sixteen ∙ sym all)
    (λ k lt. elim (cases_lt k 12) [
      | inl below ↦
          c.turned.ensures.kept k below ∙ c.add_one-next.ensures.kept k below ∙ c.turned-low_first.ensures.kept k below
          ∙ sym (get_or_append_left (take 12 block) octets 0 k (omega (arith, front)) ∙ get_or-take 12 block k 0 below)
      | inr past ↦
          let j : ℕ = k - 12 in
          let place : 12 + j ≡ k = omega arith in
          ap (λ (i : ℕ). get_or last i 0) (sym place) ∙ counted j (omega (arith, c.turned.ensures.sixteen))
          ∙ sym (get_or-append_right (take 12 block) octets 12 k 0 front past)
    ])

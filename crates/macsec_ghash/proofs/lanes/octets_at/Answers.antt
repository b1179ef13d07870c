-- The octets of the text are those of a whole block, which needs no padding.
use Rattle.{
  std.proofs.Common.{◌≡◌, ℕ, List, ◌+◌, ◌-◌, ◌^◌, ◌<◌, length, take, drop, slice_index, sym, ap, ◌∙◌, arith, rules},
  std.proofs.Common.{length-drop, length-take, take_all},
  std.proofs.lemmas.List.{get_or-drop, get_or-take},
  std.specs.Int.{w128, from_be_bytes},
  macsec_ghash.{proofs.{Blocks.whole, Octets.number_of_octets}, specs.{Ghash.block_of, Tables.number_from}},
}
use Rattle.macsec_ghash.proofs.lanes.octets_at.Goals as goal

pub returns : goal.returns
unfolding block_of
returns c =
    let text : List ℕ = c.args.text.now in
    let start : ℕ = c.args.start in
    let block : List ℕ = take 16 (drop start text) in
    let long : length block ≡ 16 = omega (arith, length-take 16 (drop start text), length-drop start text) in
    let size : start + 16 - start ≡ 16 = omega arith in
    let octet : (j : ℕ) → slice_index text j < 2 ^ 8 = λ j. search rules in
    let same : take 16 (take (start + 16 - start) (drop start text)) ≡ block =
    ap (λ (n : ℕ). take 16 (take n (drop start text))) size ∙ take_all 16 block (omega (arith, long)) in
    let small : (i : ℕ) → i < 16 → slice_index block (0 + i) < 2 ^ 8 =
    λ i lt.
    let is = get_or-take 16 (drop start text) (0 + i) 0 (omega arith) ∙ get_or-drop start text (0 + i) 0 in
    omega (arith, is, octet (start + (0 + i))) in
    ap (number_from 0) same ∙ sym (number_of_octets block small) ∙ ap (from_be_bytes w128) (whole block long)

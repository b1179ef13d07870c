use Rattle.macsec_aes_lanes.proofs.{
  Names.{◌∙◌, ap, List, map, nibble_inverse, number, range_with_len, slice_index, ℕ},
  Gates.{bits_at, number-lt},
}
use Rattle.macsec_aes_lanes.proofs.words.s_box_but_constant.Goals as goal

abbrev planes : ℕ → List ℕ → List ℕ
planes n xs = map (slice_index xs) (range_with_len 0 n)

pub returns : goal.returns
returns c k l =
    let x = number (bits_at k (planes 8 c.args.x)) in
    let small = number-lt (planes 8 c.args.x) k in
    let i = c.inverse.ensures k l ∙ ap nibble_inverse (c.sums_and_norm.ensures.norm k l) in
    c.linear_of_products.ensures k l x small (c.sums_and_norm.ensures.sums k l) i

use Rattle.macsec_aes_lanes.proofs.{
  Names.{◌%◌, ◌*◌, ◌+◌, ◌/◌, ◌∙◌, ◌≡◌, ap, arith, byte_in_half, get_or-map-range_with_len, lane_of, List, map},
  Names.{mix_columns, mixed_entry, octet, place, range_with_len, rules, slice_index, sym, unmoved_rows_below, ℕ},
  Gates.{lanes, number-lt},
  Halves.{byte_below_in_half, half-lt},
  Moved.{bytes_moved, from, from-lt, row-lt, third_row},
  Octets.{lane_of-lt, mixed, same_blocks},
}
use Rattle.macsec_aes_lanes.proofs.wide_state.mix_columns.Goals as goal

pub returns : goal.returns
unfolding mix_columns
returns c h lh k l =
    let v = c.args.v in
    let n = c.args.moves in
    let most = c.requires.most in
    let moved : List ℕ = map (λ m. byte_in_half v h k (from n m)) (range_with_len 0 16) in
    bytes_moved n most (byte_in_half c.sum-2.result h k)
    ∙ same_blocks (λ m. byte_in_half c.sum-2.result h k (from n m)) (λ m. mixed_entry moved (m % 4) (m / 4)) (λ m lt.
    let j = lane_of (from n m) in
    let t = lane_of-lt (from n m) (from-lt n m lt) in
    let l1 = row-lt n 1 j in
    let l2 = row-lt n 2 j in
    let at = half-lt h j lh t in
    let own : slice_index moved m ≡ octet v (16 * h + j) k =
    get_or-map-range_with_len (λ i. byte_in_half v h k (from n i)) 0 16 m m 0 lt (search rules) in
    let b = octet v (16 * h + unmoved_rows_below n 1 j) k in
    c.sum-2.ensures k (16 * h + j) at
    ∙ rw (
      c.sum.ensures k (16 * h + j) at,
      c.double.ensures k l (16 * h + j) at,
      c.second_rows.ensures k h lh j t,
      c.sum-pairs.ensures k (16 * h + j) at,
      c.sum-pairs.ensures k (16 * h + unmoved_rows_below n 2 j) (half-lt h (unmoved_rows_below n 2 j) lh l2),
      c.next_rows-next.ensures k h lh j t,
      c.next_rows-next.ensures k h lh (unmoved_rows_below n 2 j) l2,
      third_row n j most t,
      place m,
      own,
      byte_below_in_half v h k n 1 m (omega arith) most lt,
      byte_below_in_half v h k n 2 m (omega arith) most lt,
      byte_below_in_half v h k n 3 m (omega arith) most lt,
    ) (mixed (octet v (16 * h + j) k) b (octet v (16 * h + unmoved_rows_below n 2 j) k)
    (octet v (16 * h + unmoved_rows_below n 3 j) k)
    (number-lt (lanes 8 v (16 * h + unmoved_rows_below n 1 j)) k)))
    ∙ ap mix_columns (sym (bytes_moved n most (byte_in_half v h k)))

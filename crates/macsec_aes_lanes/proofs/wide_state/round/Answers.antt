use Rattle.macsec_aes_lanes.proofs.{
  Names.{◌∙◌, add_round_key, ap, block_in_half, block_of, List, mix_columns, rows_moved, ℕ},
  Moved.{moved_once_more, moved_sum},
}
use Rattle.macsec_aes_lanes.proofs.wide_state.round.Goals as goal

pub returns : goal.returns
returns c h lh k l =
    let n = c.args.moves in
    let key : List ℕ = rows_moved n (block_of c.args.key k) in
    ap (rows_moved n) (c.add_round_key.ensures h lh k l)
    ∙ moved_sum n (block_in_half c.mix_columns.result h k) (block_of c.args.key k)
    ∙ ap (λ (s : List ℕ). add_round_key s key) (c.mix_columns.ensures h lh k l
    ∙ ap mix_columns (ap (rows_moved n) (c.sub_bytes_but_constant.ensures h lh k l)
    ∙ moved_once_more n (block_in_half c.args.v h k) c.requires.some))

use Rattle.macsec_aes_lanes.proofs.{
  Names.{[], ◌∙◌, ◌≡◌, ◌≤◌, ap, arith, block_of, List, map, moves_left, planes_of, rows_moved, slice_index_or, sym, ℕ},
  RoundKeysAt.planes_at,
}
use Rattle.macsec_aes_lanes.proofs.schedule.ExpandedKey.round_key.Goals as goal

pub returns : goal.returns
returns c k l =
    let s = c.args.self.now in
    let are = c.requires.expanded.keys in
    let r : ℕ = c.args.round in
    let within : r ≤ s.rounds = rw are.rounds_are c.requires.within in
    let lengths = are.lengths in
    let same : c.planes.result ≡ slice_index_or (map planes_of s.round_keys) r [] =
    c.planes.ensures ∙ sym (planes_at s.round_keys r _ (grind (arith, within, lengths, are.long))) in
    ap (λ (p : List (List ℕ)). rows_moved (moves_left s.wide r) (block_of p k)) same ∙ are.each r within k l

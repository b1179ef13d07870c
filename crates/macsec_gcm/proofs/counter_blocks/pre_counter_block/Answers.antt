use Rattle.{
  std.proofs.{Common.{◌≡◌, ◌++◌, ◌∷◌, [], List, ℕ, length, set, ap, ◌∙◌, arith, rules}, lemmas.List.set-append_right},
  macsec_gcm.specs.Gcm.pre_counter_block,
}
use Rattle.macsec_gcm.proofs.counter_blocks.pre_counter_block.Goals as goal

pub returns : goal.returns
unfolding pre_counter_block
returns c =
    let iv = c.args.iv.now in
    let long : length iv ≡ 12 = search rules in
    ap (λ (xs : List ℕ). set (xs ++ 0 ∷ 0 ∷ 0 ∷ 0 ∷ []) 15 1) c.copy_from_slice.ensures.after
    ∙ set-append_right iv (0 ∷ 0 ∷ 0 ∷ 0 ∷ []) 12 15 1 long (omega arith)

-- Several steps at once, by induction over the blocks from the laws of the product.
use Rattle.{
  std.proofs.Common.{◌∙◌, ◌∷◌},
  macsec_ghash.{proofs.{Blocks.ghash-append, Steps.by_powers}, specs.Ghash.ghash},
}
use Rattle.macsec_ghash.proofs.laws.ghash_by_powers.Goals as goal

pub returns : goal.returns
returns c h blocks x xs lt =
    ghash-append h blocks (x ∷ xs)
    ∙ by_powers c.product_adds.ensures.first c.product_associates.ensures c.product_is_block.ensures h lt (ghash h blocks) x xs

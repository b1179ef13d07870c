use Rattle.{
  std.proofs.{Common.ℕ, lemmas.List.{get_or-replicate, length-replicate}},
  macsec_rx.proofs.RowIndex.IsIndex-none,
}
use Rattle.macsec_rx.proofs.index.empty_index.Goals as goal

pub returns : goal.returns
returns c = λ scis. IsIndex-none scis _ (length-replicate {A = ℕ} 256 256) (λ n small. get_or-replicate 256 n 256 0 small)

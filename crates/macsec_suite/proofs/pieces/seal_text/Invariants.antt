use Rattle.{
  std.proofs.Common.{ℕ, List, []},
  macsec_gcm.specs.{Gcm.seal_of, Pieces.HasSealed},
  macsec_suite.proofs.Cuts.AreWritten,
}
use Rattle.macsec_suite.proofs.pieces.seal_text.Given as goal

abbrev pub ciphertext : List ℕ → List ℕ → List ℕ → List ℕ → List ℕ
ciphertext key iv aad text = (seal_of key iv aad text).0

-- the first i pieces were sealed
abbrev pub invariant-loop-i : goal.invariant-loop-i
invariant-loop-i l = (key iv aad : List ℕ) → HasSealed l.initial.sealer key iv aad []
    → AreWritten (HasSealed l.sealer key iv aad) (ciphertext key iv aad) l.initial.text l.text l.i

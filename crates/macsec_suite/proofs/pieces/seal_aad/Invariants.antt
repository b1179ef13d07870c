use Rattle.{std.proofs.Common.{ℕ, List, []}, macsec_gcm.specs.Pieces.HasSealed, macsec_suite.proofs.Cuts.AreTaken}
use Rattle.macsec_suite.proofs.pieces.seal_aad.Given as goal

-- the pieces before the rest were authenticated
abbrev pub invariant-loop-piece : goal.invariant-loop-piece
invariant-loop-piece l = (key iv : List ℕ) → HasSealed l.initial.sealer key iv [] []
    → AreTaken (λ aad. HasSealed l.sealer key iv aad []) l.aad l.piece-iterator.rest.now

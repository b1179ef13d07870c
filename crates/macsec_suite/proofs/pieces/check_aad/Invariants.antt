use Rattle.{std.proofs.Common.{ℕ, List, []}, macsec_gcm.specs.Pieces.HasChecked, macsec_suite.proofs.Cuts.AreTaken}
use Rattle.macsec_suite.proofs.pieces.check_aad.Given as goal

-- the pieces before the rest were authenticated
abbrev pub invariant-loop-piece : goal.invariant-loop-piece
invariant-loop-piece l = (key iv : List ℕ) → HasChecked l.initial.opener key iv [] []
    → AreTaken (λ aad. HasChecked l.opener key iv aad []) l.aad l.piece-iterator.rest.now

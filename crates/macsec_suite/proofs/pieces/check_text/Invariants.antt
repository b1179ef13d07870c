use Rattle.{std.proofs.Common.{ℕ, List, []}, macsec_gcm.specs.Pieces.HasChecked, macsec_suite.proofs.Cuts.AreTaken}
use Rattle.macsec_suite.proofs.pieces.check_text.Given as goal

-- the pieces before the rest were checked
abbrev pub invariant-loop-piece : goal.invariant-loop-piece
invariant-loop-piece l = (key iv aad : List ℕ) → HasChecked l.initial.opener key iv aad []
    → AreTaken (HasChecked l.opener key iv aad) l.text l.piece-iterator.rest.now

use Rattle.{
  std.proofs.Common.{ℕ, List, []},
  macsec_gcm.specs.Pieces.{HasOpened, decrypted},
  macsec_suite.proofs.Cuts.AreWritten,
}
use Rattle.macsec_suite.proofs.pieces.decrypt.Given as goal

-- the first i pieces were decrypted
abbrev pub invariant-loop-i : goal.invariant-loop-i
invariant-loop-i l = (key iv : List ℕ) → HasOpened l.initial.unlocked key iv []
    → AreWritten (HasOpened l.unlocked key iv) (decrypted key iv) l.initial.text l.text l.i

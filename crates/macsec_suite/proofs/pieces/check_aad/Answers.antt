use Rattle.{
  std.proofs.Common.{[], rules},
  macsec_gcm.specs.Pieces.HasChecked,
  macsec_suite.proofs.Cuts.{all_taken, none_taken, one_more_taken},
}
use Rattle.macsec_suite.proofs.pieces.check_aad.Goals as goal

pub loop-piece-init : goal.loop-piece-init
loop-piece-init c = λ key iv. none_taken (λ aad. HasChecked c.args.opener.now key iv aad []) (search rules)

pub loop-piece-preserved : goal.loop-piece-preserved
loop-piece-preserved c = λ key iv none.
    one_more_taken (λ aad. HasChecked c.loop-piece.opener key iv aad [])
    (λ aad. HasChecked c.aad.new.self key iv aad [])
    c.in-Some.ensures.steps.1.0 (c.aad.ensures key iv) (c.loop-piece.invariant key iv none)

pub returns : goal.returns
returns c = λ key iv none.
    all_taken (λ aad. HasChecked c.loop-piece.opener key iv aad [])
    c.in-None.ensures.steps.1.0 (c.loop-piece.invariant key iv none)

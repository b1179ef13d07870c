-- No frame that is sent or delivered is too long for a record.
use Rattle.{
  std.proofs.Common.{◌≡◌, ◌≤◌, ℕ, List, length, arith, subst, sym, Option, Some, None, IfSome},
  macsec_secy.specs.{
    Frames.HasFrameLengths,
    Step.{Output, done, refused, leaves, dropped_no_sa, dropped_too_long, received, fault},
  },
  macsec_capture.specs.Captured.frame_of_output,
}

fits : (out : Output) → HasFrameLengths out → IfSome (frame_of_output out) (λ f. length f ≤ 262144)
fits (leaves frame under) has = omega (arith, has.most)
fits (received verdict row shown None) has = tt
fits (received verdict row shown (Some frame)) has = omega (arith, has.controlled, has.shown.most)
fits done has = tt
fits (refused r) has = tt
fits dropped_no_sa has = tt
fits dropped_too_long has = tt
fits (fault f) has = tt

pub fits_record : (out : Output) (frame : Option (List ℕ)) → frame ≡ frame_of_output out → HasFrameLengths out → IfSome frame (λ f. length f ≤ 262144)
fits_record out frame same has = subst (λ o. IfSome o (λ f. length f ≤ 262144)) (sym same) (fits out has)

-- The frame at the number's index, or none after the last one. Written down so that another frame is refused quickly.
use Rattle.macsec_link.proofs.Names.{[], ◌<◌, ◌∙◌, ◌∷◌, ◌≡◌, ◌≤◌, ap, arith, frames_kept, get_or, length, List, None}
use Rattle.macsec_link.proofs.Names.{option_copied, refl, slice_get, Some, suc, Vec, WorldState, zero, ℕ}
use Rattle.macsec_link.proofs.world.World.frame.Goals as goal

found_at : (frames : List (Vec ℕ)) (n : ℕ) (frame : Vec ℕ) → n < length frames →
    ((d : Vec ℕ) → frame ≡ get_or frames n d) → Some frame.items ≡ slice_get (frames_kept frames) n
found_at [] n frame within is = absurd (omega (arith, within))
found_at (f ∷ frames) zero frame within is = ap (λ (v : Vec ℕ). Some v.items) (is frame)
found_at (f ∷ frames) (suc n) frame within is = found_at frames n frame (omega (arith, within)) is

none_at : (frames : List (Vec ℕ)) (n : ℕ) → length frames ≤ n → None ≡ slice_get (frames_kept frames) n
none_at [] n past = refl
none_at (f ∷ frames) zero past = absurd (omega (arith, past))
none_at (f ∷ frames) (suc n) past = none_at frames n (omega (arith, past))

pub returns : goal.returns
returns c =
    let at = c.in_ok-frame.ensures.lookup.3 in
    ap Some c.as_slice.ensures.value ∙ found_at c.deref.result.now c.args.n c.in_ok-frame.frame.now at.0 at.1
    ∙ ap (λ (frames : List (Vec ℕ)). slice_get (frames_kept frames) c.args.n) c.deref.ensures.value
    ∙ ap (λ (w : WorldState). slice_get w.frames c.args.n) c.self.view_is

pub returns-in_err-frame : goal.returns-in_err-frame
returns-in_err-frame c =
    ap option_copied c.from_residual.ensures
    ∙ none_at c.deref.result.now c.args.n c.in_err-frame.ensures.lookup.3
    ∙ ap (λ (frames : List (Vec ℕ)). slice_get (frames_kept frames) c.args.n) c.deref.ensures.value
    ∙ ap (λ (w : WorldState). slice_get w.frames c.args.n) c.self.view_is

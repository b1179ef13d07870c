-- A frame of fewer than 60 octets is followed by zeros up to 60. Written down so that another number of zeros is
-- refused quickly.
use Rattle.macsec_link.proofs.Names.{◌++◌, ◌-◌, ◌<◌, ◌∙◌, ◌≡◌, ap, arith, length, List, padded_frame, replicate, take}
use Rattle.macsec_link.proofs.Names.{take_all, ℕ}
use Rattle.macsec_link.proofs.world.padded.Goals as goal

is_padded : (frame items new : List ℕ) (len : ℕ) → length frame < 60 → items ≡ frame → len ≡ length frame →
    new ≡ take 60 items ++ replicate (60 - len) 0 → new ≡ padded_frame frame
is_padded frame items new len short same counted is =
    is ∙ ap (λ octets. take 60 octets ++ replicate (60 - len) 0) same
    ∙ ap (λ n. take 60 frame ++ replicate (60 - n) 0) counted
    ∙ ap (λ octets. octets ++ replicate (60 - length frame) 0) (take_all 60 frame (omega (arith, short)))

pub returns : goal.returns
returns c =
    let copy = c.in_ok-padded.ensures in
    let short : length c.args.frame.now < 60 =
    omega (arith, c.if-len-ge-MIN_PADDED_LEN.false, c.len.ensures, copy.len) in
    is_padded c.args.frame.now c.in_ok-padded.padded.items c.resize.new.self.items _ short
    (copy.items_if_clones_equal (λ x y same. same)) copy.len c.in_ok-resize.ensures.items

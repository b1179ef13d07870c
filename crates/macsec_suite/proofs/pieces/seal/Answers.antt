-- The pieces of the additional authenticated data and then of the text were sealed, so the tag is theirs.
use Rattle.macsec_suite.proofs.pieces.seal.Goals as goal

pub returns : goal.returns
returns c =
    let sealed = c.seal_text.ensures _ _ _ (c.seal_aad.ensures _ _ c.start-sealer.ensures) in
    let tag = c.finish.ensures _ _ _ _ sealed.0 c.requires.aad_length c.requires.text_length in
    λ i. (sealed.1 i, tag i)

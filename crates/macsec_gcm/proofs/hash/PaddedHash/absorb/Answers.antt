use Rattle.macsec_gcm.proofs.States.{two_parts}
use Rattle.macsec_gcm.proofs.hash.PaddedHash.absorb.Goals as goal

pub returns : goal.returns
returns c = λ h blocks text at.
    let tail = c.absorb_next-2.ensures h blocks _ (c.complete.ensures.hashes h blocks text at) in
    rw (two_parts text c.args.piece.now _ _ _ c.split_at.ensures.front c.split_at.ensures.back) at tail

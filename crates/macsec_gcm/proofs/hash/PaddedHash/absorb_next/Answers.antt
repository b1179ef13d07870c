use Rattle.{std.proofs.Common.arith, macsec_gcm.proofs.States.two_parts}
use Rattle.macsec_gcm.proofs.hash.PaddedHash.absorb_next.Goals as goal

pub returns : goal.returns
returns c = λ h blocks text at.
    let tail = c.wait.ensures h blocks _ (c.absorb_whole.ensures.hashes h blocks text at) in
    rw (two_parts text c.args.piece.now _ _ _ c.split_at.ensures.front c.split_at.ensures.back) at tail

pub wait-requires : goal.wait-requires
wait-requires c = omega (arith, c.absorb_whole.ensures.none)

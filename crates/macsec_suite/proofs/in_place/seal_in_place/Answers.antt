-- The clear octets, the sealed rest and its tag are what the definition gives for the whole frame. Proved from the
-- contracts of the calls with `sealed_in_place` of `ClearParts`.
use Rattle.macsec_suite.proofs.ClearParts.{sealed_in_place}
use Rattle.macsec_suite.proofs.in_place.seal_in_place.Goals as goal

pub returns : goal.returns
returns c =
    let body = c.split_at_mut-body.ensures in
    let rest = c.split_at_mut-aad.ensures in
    sealed_in_place c.args.key.now c.args.offset c.args.iv.now c.args.conf c.args.head c.args.frame.now
    body.front body.front_len c.clear_length.ensures rest.front rest.back c.seal-tag.ensures c.copy_from_slice.ensures.after

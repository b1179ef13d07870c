-- Searching the SCs piece by piece. Proved from the lemmas in `Pieces`.
use Rattle.{std.proofs.Common.{◌*◌, ◌+◌, sym, arith}, macsec_rx.proofs.Pieces.next_piece}
use Rattle.macsec_rx.proofs.index.channel_place.Goals as goal

pub loop-number-preserved : goal.loop-number-preserved
loop-number-preserved c =
    let n = c.loop-number.number in
    let next = next_piece c.args.scis.now c.args.sci (8 * n) _ (8 * (n + 1)) (omega (arith, c.loop-number-test.true)) (omega arith)
    (sym c.in_default.ensures.there) c.loop-number.invariant.there c.loop-number.invariant.place in
    record { there = next.0; place = next.1 }

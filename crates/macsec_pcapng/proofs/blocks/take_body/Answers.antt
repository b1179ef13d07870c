use Rattle.{
  std.proofs.Common.{◌≡◌, ◌+◌, ◌≤◌, arith, length},
  macsec_pcapng.proofs.TakenBlocks.{body_taken, piece_fault},
}
use Rattle.macsec_pcapng.proofs.blocks.take_body.Goals as goal

pub returns-in-Err : goal.returns-in-Err
returns-in-Err g c =
    let known : c.args.known ≤ c.kept-end.result = grind (arith, c.kept-end.ensures.head, c.requires.few, c.requires.within) in
    let piece : length c.fetch.new.room + c.args.known ≡ c.kept-end.result = omega (arith, known, c.fetch.auto.room, c.kept-end.ensures.fits, c.requires.room) in
    let left = g.R.Read.remaining c.fetch.new.source in
    piece_fault _ left left c.args.room.now c.fetch.new.room c.fetch.new.room c.args.known c.kept-end.result c.args.len c.in-Err.fault
    c.requires.room known c.kept-end.ensures.fits c.kept-end.ensures.within piece c.in-Err.ensures

pub returns-in-Ok : goal.returns-in-Ok
returns-in-Ok g c =
    let known : c.args.known ≤ c.kept-end.result = grind (arith, c.kept-end.ensures.head, c.requires.few, c.requires.within) in
    let piece : length c.fetch.new.room + c.args.known ≡ c.kept-end.result = omega (arith, known, c.fetch.auto.room, c.kept-end.ensures.fits, c.requires.room) in
    body_taken _ _ _ c.args.room.now c.fetch.new.room _ c.args.known c.kept-end.result c.args.len c.skip.result
    c.requires.room known c.kept-end.ensures.fits c.kept-end.ensures.within c.kept-end.ensures.kept piece c.in-Ok.ensures c.skip.ensures

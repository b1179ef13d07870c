use Rattle.{
  std.proofs.Common.{◌≡◌, ◌∙◌, ◌-◌, refl, sym, take, true},
  macsec_pcapng.{proofs.TakenBlocks.{block_taken, body_fault, trailer_fault}, specs.Blocks.is_length},
}
use Rattle.macsec_pcapng.proofs.blocks.take_known.Goals as goal

pub returns-in-Err-clause-block : goal.returns-in-Err-clause-block
returns-in-Err-clause-block g c =
    let can : is_length c.args.kind c.args.total ≡ true = sym c.is_length.ensures ∙ c.if-not-is_length.false in
    body_fault c.args.order c.args.kind c.args.total (c.args.total - 12) (take c.args.known c.args.room.now) _ (g.R.Read.remaining c.take_body.new.source)
    (g.R.Read.remaining c.take_body.new.source) c.take_body.new.room c.take_body.new.room c.in-Err.fault can refl c.in-Err.ensures

pub returns-in-Err-take_trailer-clause-block : goal.returns-in-Err-take_trailer-clause-block
returns-in-Err-take_trailer-clause-block g c =
    let can : is_length c.args.kind c.args.total ≡ true = sym c.is_length.ensures ∙ c.if-not-is_length.false in
    trailer_fault c.args.order c.args.kind c.args.total (c.args.total - 12) (take c.args.known c.args.room.now) _ _ (g.R.Read.remaining c.take_trailer.new.source)
    (g.R.Read.remaining c.take_trailer.new.source) c.take_body.new.room c.in-Err-take_trailer.fault can refl c.in-Ok.ensures c.in-Err-take_trailer.ensures

pub returns-in-Ok-take_trailer-clause-block : goal.returns-in-Ok-take_trailer-clause-block
returns-in-Ok-take_trailer-clause-block g c =
    let can : is_length c.args.kind c.args.total ≡ true = sym c.is_length.ensures ∙ c.if-not-is_length.false in
    block_taken c.args.order c.args.kind c.args.total (c.args.total - 12) (take c.args.known c.args.room.now) _ _ _ c.take_body.new.room
    can refl c.in-Ok.ensures c.in-Ok-take_trailer.ensures

use Rattle.{
  std.proofs.{Common.{◌≤◌, arith, length}, lemmas.Result.err_from_is_err_and},
  macsec_pcap.proofs.WrittenRecords.{cuts_head, writes_record},
}
use Rattle.macsec_pcap.proofs.writer.write_record.Goals as goal

pub returns-in_err-write_piece : goal.returns-in_err-write_piece
returns-in_err-write_piece g c =
    let fits : length c.args.frame.now ≤ 262144 = omega arith in
    let p = err_from_is_err_and c.from_residual.result c.from_residual.ensures.1 in
    rw (p.1, p.2)
    (cuts_head _ _ _ _ _ fits c.record_head-head.ensures c.in_err-write_piece.ensures.fault c.in_err-write_piece.ensures.cut)

pub returns : goal.returns
returns g c =
    let fits : length c.args.frame.now ≤ 262144 = omega arith in
    writes_record _ _ _ c.args.seconds c.args.fraction c.args.frame.now c.write_piece-2.result fits
    c.record_head-head.ensures c.in_ok-write_piece.ensures.whole c.write_piece-2.ensures.whole c.write_piece-2.ensures.fault c.write_piece-2.ensures.cut

use Rattle.{
  std.{proofs.{Common.{subst, sym}, lemmas.Result.err_from_is_err_and}, specs.Io.KnownBytes.Appends},
  macsec_pcap.specs.{Writing.contents, Written.header_octets},
  macsec_capture.proofs.Whole.{headless, headless_some, taken_of_file, taken_of_some},
}
use Rattle.macsec_capture.proofs.running.write_output.Goals as goal

pub returns-in_err-write_header-clause-run : goal.returns-in_err-write_header-clause-run
returns-in_err-write_header-clause-run g c =
    let p = err_from_is_err_and c.from_residual.result c.from_residual.ensures.1 in
    rw (p.1, p.2) (headless _ _ _ _ _ _ _ _ c.in_err-write_header.ensures.fault c.resolution.ensures c.in_err-write_header.ensures.cut)

pub returns-in_err-write_header-clause-some : goal.returns-in_err-write_header-clause-some
returns-in_err-write_header-clause-some g c =
    let p = err_from_is_err_and c.from_residual.result c.from_residual.ensures.1 in
    rw (p.1, p.2) (headless_some _ _ _ _ _ _ _ c.in_err-write_header.ensures.fault c.in_err-write_header.ensures.cut)

pub returns-clause-run : goal.returns-clause-run
returns-clause-run g c =
    let header : Appends (g.W.Write.contents c.args.outputs.now.output.now) (contents g.W.Write.contents c.behind_header-writer.result) (header_octets c.resolution.result) =
    subst (λ held. Appends (g.W.Write.contents c.args.outputs.now.output.now) held (header_octets c.resolution.result)) (sym c.behind_header-writer.ensures.header)
    c.in_ok-write_header.ensures.whole in
    taken_of_file c.faults_are_of_format.ensures _ _ _ _ _ _ _ _ _ _ _ _ c.resolution.ensures header c.run_records.ensures.records

pub returns-clause-some : goal.returns-clause-some
returns-clause-some g c =
    let header : Appends (g.W.Write.contents c.args.outputs.now.output.now) (contents g.W.Write.contents c.behind_header-writer.result) (header_octets c.resolution.result) =
    subst (λ held. Appends (g.W.Write.contents c.args.outputs.now.output.now) held (header_octets c.resolution.result)) (sym c.behind_header-writer.ensures.header)
    c.in_ok-write_header.ensures.whole in
    taken_of_some _ _ _ _ _ _ _ _ _ _ _ _ header c.run_records.ensures.records

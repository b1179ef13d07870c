use Rattle.{std.proofs.Common.{◌≤◌, arith}, macsec_pcap.proofs.Headers.reads_header}
use Rattle.macsec_pcap.proofs.header.read_header.Goals as goal

pub returns : goal.returns
returns g c =
    let whole : 24 ≤ c.in_ok-fill.field-0 = omega arith in
    reads_header _ _ c.fill.new.room c.in_ok-fill.field-0 c.form_of_header.result c.fill.auto.room whole c.in_ok-fill.ensures c.form_of_header.ensures

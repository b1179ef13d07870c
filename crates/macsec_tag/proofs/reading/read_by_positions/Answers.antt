-- Each return is what the table says. Written out for speed.
use Rattle.{
  std.proofs.Common.{arith, ap, sym, ◌∙◌, None, Some},
  macsec_tag.{proofs.Readings.{reads_short, reads_untagged, reads_with, stands_without_fault}, specs.Table.tagged},
}
use Rattle.macsec_tag.proofs.reading.read_by_positions.Goals as goal

pub fault_of-requires : goal.fault_of-requires
fault_of-requires c = sym c.has_macsec_ethertype.ensures ∙ c.if-not-has_macsec_ethertype.false

pub parts_of-requires : goal.parts_of-requires
parts_of-requires c =
    stands_without_fault c.args.frame.now (sym c.has_macsec_ethertype.ensures ∙ c.if-not-has_macsec_ethertype.false) (sym c.fault_of.ensures ∙ c.in-None.is)

pub returns-then-frame-lt-MIN_FRAME_LEN : goal.returns-then-frame-lt-MIN_FRAME_LEN
returns-then-frame-lt-MIN_FRAME_LEN c = reads_short c.args.frame.now (omega arith)

pub returns-then-not-has_macsec_ethertype : goal.returns-then-not-has_macsec_ethertype
returns-then-not-has_macsec_ethertype c =
    sym ((reads_untagged c.args.frame.now).1 (record { long = omega arith; ethertype = sym c.has_macsec_ethertype.ensures ∙ c.if-not-has_macsec_ethertype.true }))

pub returns-in-Some : goal.returns-in-Some
returns-in-Some c =
    let ethertype = sym c.has_macsec_ethertype.ensures ∙ c.if-not-has_macsec_ethertype.false in
    reads_with c.args.frame.now (omega arith) ethertype (Some c.in-Some.fault) (sym c.in-Some.is ∙ c.fault_of.ensures)

pub returns-in-None : goal.returns-in-None
returns-in-None c =
    let ethertype = sym c.has_macsec_ethertype.ensures ∙ c.if-not-has_macsec_ethertype.false in
    ap tagged c.parts_of.ensures ∙ reads_with c.args.frame.now (omega arith) ethertype None (sym c.in-None.is ∙ c.fault_of.ensures)

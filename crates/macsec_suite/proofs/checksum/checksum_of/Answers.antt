use Rattle.{
  std.proofs.Common.{◌∙◌, ◌+◌, ap, sym, drop, fold},
  macsec_suite.{proofs.Checksums.fold_drop, specs.Checksums.checksum_next},
}
use Rattle.macsec_suite.proofs.checksum.checksum_of.Goals as goal

pub octets-preserved : goal.octets-preserved
unfolding checksum_next
octets-preserved c =
    let octets = c.args.octets.now in
    let i = c.octets.i in
    ap (λ y. fold checksum_next y (drop (i + 1) octets)) (ap (checksum_next c.octets.checksum) c.from.ensures)
    ∙ sym (fold_drop octets i c.octets.checksum c.octets-test.true) ∙ c.octets.invariant

use Rattle.{
  std.proofs.Common.{◌∙◌, sym},
  macsec_aes.specs.Keys.key_bytes,
  macsec_suite.proofs.Checksums.{none_retired, not_retired},
}
use Rattle.macsec_suite.proofs.key_table.KeyTable.has_retired.Goals as goal

pub returns-then-not-self : goal.returns-then-not-self
returns-then-not-self c =
    sym (rw (sym c.self.view_is) (none_retired _ (key_bytes c.args.bytes) (c.self.invariant.6 c.if-not-self.true)))

pub returns-else-has_checksum : goal.returns-else-has_checksum
returns-else-has_checksum c =
    c.if-has_checksum.false
    ∙ sym (not_retired c.args.self.now (key_bytes c.args.bytes) (sym c.has_checksum.ensures ∙ c.if-has_checksum.false))

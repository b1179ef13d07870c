use Rattle.{std.proofs.Common.{◌∙◌, sym}, macsec_aes.specs.Keys.key_bytes, macsec_suite.proofs.Checksums.not_repeated}
use Rattle.macsec_suite.proofs.key_table.KeyTable.has_bytes.Goals as goal

pub returns-else-has_checksum : goal.returns-else-has_checksum
returns-else-has_checksum c =
    c.if-has_checksum.false
    ∙ sym (not_repeated c.args.self.now (key_bytes c.args.bytes) (sym c.has_checksum.ensures ∙ c.if-has_checksum.false))

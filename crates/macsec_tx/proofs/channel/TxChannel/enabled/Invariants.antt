use Rattle.{std.proofs.Common.{◌≡◌, drop}, macsec_tx.specs.Transmit.row_on}
use Rattle.macsec_tx.proofs.channel.TxChannel.enabled.Given as goal

-- no SA before the index is enabled
abbrev pub invariant-rows : goal.invariant-rows
invariant-rows l = row_on l.rows ≡ row_on (drop l.index l.rows)

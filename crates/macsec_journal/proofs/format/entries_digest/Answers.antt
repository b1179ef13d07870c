use Rattle.std.proofs.Common.{◌++◌, ◌∙◌, ap, codes, List, ℕ}
use Rattle.sha2.specs.Sha256.{sha256}
use Rattle.macsec_journal.proofs.format.entries_digest.Goals as goal

pub returns : goal.returns
returns c =
    c.finalize.ensures _ (c.update-3.ensures _ (c.update-2.ensures _ (c.update.ensures _ c.new-hasher.ensures)))
    ∙ ap (λ (salt : List ℕ). sha256 (codes "macsec journal: table" ++ salt ++ c.args.octets.now)) c.as_slice.ensures

use Rattle.std.proofs.Common.{◌++◌, ◌∙◌, ap, codes, List, ℕ, take}
use Rattle.sha2.specs.Sha256.{sha256}
use Rattle.macsec_journal.specs.Format.{file_title}
use Rattle.macsec_journal.proofs.format.check_of_file.Goals as goal

pub returns : goal.returns
returns c =
    c.copy_from_slice.ensures.after
    ∙ ap (λ (xs : List ℕ). take 24 xs) (
    c.finalize-digest.ensures _ (c.update-3.ensures _ (c.update-2.ensures _ (c.update.ensures _ c.new-hasher.ensures)))
    ∙ ap (λ (salt : List ℕ). sha256 (codes "macsec journal: header" ++ file_title ++ salt)) c.as_slice.ensures
    )

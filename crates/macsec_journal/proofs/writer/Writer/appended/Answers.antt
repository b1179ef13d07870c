use Rattle.std.proofs.Common.{◌++◌, ap, ◌∙◌}
use Rattle.macsec_journal.specs.{Format.copy_of, Machine.{Journal, appended}}
use Rattle.macsec_journal.proofs.writer.Writer.appended.Goals as goal

pub returns-clause-octets : goal.returns-clause-octets
returns-clause-octets c =
    c.append_copy-2.ensures.octets
    ∙ ap (λ xs. xs ++ copy_of c.as_slice.result.now) (c.append_copy.ensures.octets ∙ ap
    (λ xs. xs ++ copy_of c.as_slice-records.result.now) c.clear.ensures.items)
    ∙ ap (λ rs. copy_of rs ++ copy_of c.as_slice.result.now) c.as_slice-records.ensures.value
    ∙ ap (λ rs. copy_of c.self.inside.ordered.items ++ copy_of rs) c.as_slice.ensures.value
    ∙ ap (λ (j : Journal). (appended j).octets) c.self.view_is

-- The form is refused exactly if it does not fit the SCI, and otherwise set. By search; written down to save time.
use Rattle.macsec_secy.proofs.Names.{rules}
use Rattle.macsec_secy.proofs.Secy.set_form.Goals as goal

pub returns-clause-refusal : goal.returns-clause-refusal
returns-clause-refusal c = search rules

pub returns-clause-after : goal.returns-clause-after
returns-clause-after c = search rules

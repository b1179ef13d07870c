use Rattle.macsec_journal.proofs.Moments.{covers_records}
use Rattle.macsec_journal.proofs.laws.covers_records.Goals as goal

pub returns : goal.returns
returns c = covers_records

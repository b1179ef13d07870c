use Rattle.macsec_journal.proofs.Reading.{reads_count, reads_no_count}
use Rattle.macsec_journal.proofs.format.has_count.Goals as goal

pub returns-in-None : goal.returns-in-None
returns-in-None c = reads_no_count c.args.octets.now _ _ c.from_octets.ensures c.copy_from_slice.ensures.after
    c.in-None.is

pub returns-in-Some : goal.returns-in-Some
returns-in-Some c = reads_count c.args.octets.now _ _ _ _ c.from_octets.ensures c.copy_from_slice.ensures.after
    c.in-Some.is c.agrees.ensures

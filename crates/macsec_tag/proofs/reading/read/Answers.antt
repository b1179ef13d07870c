-- A result that is the table's is the grammar's.
use Rattle.macsec_tag.proofs.{ByPlace.are_octets, Readings.{answered_tagged_by, answered_untagged_by}}
use Rattle.macsec_tag.proofs.reading.read.Goals as goal

pub returns-clause-is_tagged : goal.returns-clause-is_tagged
returns-clause-is_tagged c = answered_tagged_by c.args.frame.now _ (are_octets _ c.type_inv.frame) c.read_by_positions.ensures

pub returns-clause-is_untagged : goal.returns-clause-is_untagged
returns-clause-is_untagged c = answered_untagged_by c.args.frame.now _ c.read_by_positions.ensures

pub returns-clause-table : goal.returns-clause-table
returns-clause-table c = c.read_by_positions.ensures

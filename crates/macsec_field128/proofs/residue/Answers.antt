use Rattle.{std.proofs.Common.{refl, arith}, macsec_field128.proofs.Carryless.residue_of_halves}
use Rattle.macsec_field128.proofs.residue.Goals as goal

pub returns : goal.returns
returns c = residue_of_halves c.args.left c.args.right _ (omega arith) (omega arith) refl

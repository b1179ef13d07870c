use Rattle.{
  std.proofs.{Common.{inl, inr, arith}, lemmas.Bool.Decides.eqb_tells},
  macsec_aes.proofs.SBox.{differ_is_0, differ_is_1},
}
use Rattle.macsec_aes.proofs.entry_if_same.Goals as goal

pub returns : goal.returns
returns c =
    elim (eqb_tells c.args.i c.args.a) [
      | inl same ↦ rw (same.0, differ_is_0 c.args.i c.args.a same.1) (omega arith)
      | inr other ↦ rw (other.0, differ_is_1 c.args.i c.args.a (omega arith) (omega arith) other.1) (omega arith)
    ]

-- The SecTAG is the one at its position, and is valid. Written out for speed.
use Rattle.{
  std.proofs.{Common.{arith, sym, subst}, lemmas.Nat.and_le_r},
  macsec_tag.{proofs.ByPlace.{are_octets, is_tag_by, tag_cut}, specs.Tag.IsTag},
}
use Rattle.macsec_tag.proofs.reading.sec_tag.Goals as goal

pub returns : goal.returns
returns c = tag_cut c.args.frame.now c.read_u32.result c.sci.result (omega (arith, c.read_u32.ensures)) c.sci.ensures

pub invariant_of-result : goal.invariant_of-result
invariant_of-result c = omega (arith, and_le_r)

pub invariant_of-result-2 : goal.invariant_of-result-2
invariant_of-result-2 c = subst IsTag (sym (returns c)) (is_tag_by c.args.frame.now (are_octets _ c.type_inv.frame) c.requires)

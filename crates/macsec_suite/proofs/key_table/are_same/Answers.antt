use Rattle.{
  std.proofs.Common.{◌∙◌, sym, ap, refl, get_or, ◌&&◌, arith, Bool, ◌==◌, take_all},
  macsec_suite.proofs.KeyLemmas.{lengths_differ, same_octets-more},
}
use Rattle.macsec_suite.proofs.key_table.are_same.Goals as goal

pub returns-then-a-b : goal.returns-then-a-b
returns-then-a-b c = sym (lengths_differ c.args.a.now c.args.b.now c.if-a-b.true)

pub octets-preserved : goal.octets-preserved
octets-preserved c =
    let a = c.args.a.now in
    let b = c.args.b.now in
    ap (λ (so_far : Bool). so_far && (get_or a c.octets.i 0 == get_or b c.octets.i 0)) c.octets.invariant
    ∙ sym (same_octets-more a b c.octets.i (omega arith) (omega arith))

pub returns : goal.returns
returns c = c.octets.invariant ∙ rw (take_all c.octets.i c.args.a.now (omega arith), take_all c.octets.i c.args.b.now (omega arith)) refl

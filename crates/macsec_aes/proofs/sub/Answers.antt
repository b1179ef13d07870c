use Rattle.{std.proofs.Common.{◌<◌, arith, ◌∙◌, lt-ltb}, macsec_aes.proofs.SBox.S_BOX_at}
use Rattle.macsec_aes.proofs.sub.Goals as goal

pub returns : goal.returns
returns c =
    let past : c.args.a < c.entries.i = omega arith in
    (rw (lt-ltb c.args.a c.entries.i past) at c.entries.invariant) ∙ S_BOX_at c.args.a (omega arith)

use Rattle.std.proofs.{Common.{◌+◌, ◌-◌, length, arith, rules}, lemmas.Slice.drop-put_mid}
use Rattle.macsec_rx.proofs.delivering.put.Goals as goal

pub returns-clause-rest : goal.returns-clause-rest
returns-clause-rest c = λ n behind.
    let at = c.args.at in
    let k = length c.args.part.now in
    drop-put_mid at (at + k - at) c.args.out.now c.copy_from_slice.new.self n (omega (arith, behind)) (omega (arith, c.requires)) (search rules)

use Rattle.{std.proofs.{Common.arith, lemmas.Grind.common_steps}, macsec_c_calls.proofs.Commanded.one_more}
use Rattle.macsec_c_calls.proofs.configuring.carry_out_lines.Goals as goal

pub loop-n-preserved : goal.loop-n-preserved
loop-n-preserved c =
    one_more _ _ _ c.args.commands.now c.loop-n.n-index _ c.loop-n-item.is (omega arith) c.loop-n.invariant c.in_ok-carry_out_line.ensures

pub returns-in_err-carry_out_line : goal.returns-in_err-carry_out_line
returns-in_err-carry_out_line c =
    let refused = one_more _ _ _ c.args.commands.now c.loop-n.n-index _ c.loop-n-item.is (omega arith) c.loop-n.invariant c.in_err-carry_out_line.ensures in
    grind (arith, common_steps, refused)

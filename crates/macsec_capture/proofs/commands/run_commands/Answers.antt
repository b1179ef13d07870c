use Rattle.{std.proofs.Common.arith, macsec_capture.proofs.Carried.one_more}
use Rattle.macsec_capture.proofs.commands.run_commands.Goals as goal

pub loop-n-preserved : goal.loop-n-preserved
loop-n-preserved g c =
    let it = c.in_ok-run_command.ensures in (
      one_more _ _ _ _ _ _ c.args.commands.now c.loop-n.n-index _ c.loop-n-item.is (omega arith) c.loop-n.invariant.0 it.text it.state,
      it.sound,
    )

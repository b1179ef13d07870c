use Rattle.macsec_script.proofs.Promised.{ends_made, lines_before, lines_promised}
use Rattle.macsec_script.proofs.running.print_script.Goals as goal

pub returns-clause-promised : goal.returns-clause-promised
returns-clause-promised g c =
    lines_promised c.promises.ensures (record { a = c.args.a; b = c.args.b; lines = c.args.lines.now }) _ (ends_made c.in-Ok.ensures.made.1 c.config.ensures.config c.config-2.ensures.config) c.in-Ok.ensures.sound c.print_lines.result c.print_lines.ensures.sound

pub returns-clause-promised_before : goal.returns-clause-promised_before
returns-clause-promised_before g c =
    lines_before c.promises.ensures (record { a = c.args.a; b = c.args.b; lines = c.args.lines.now }) _ _ (ends_made c.in-Ok.ensures.made.1 c.config.ensures.config c.config-2.ensures.config) c.in-Ok.ensures.sound _ _ c.print_lines.result c.print_lines.ensures.sound_before

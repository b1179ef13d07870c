use Rattle.{std.proofs.Common.refl, macsec_script_printer.proofs.Pieces.end_of_text}
use Rattle.macsec_script_printer.proofs.counters.write_counters.Goals as goal

pub returns : goal.returns
returns g c =
    let front = rw (c.own_counters-own.ensures, c.counters.ensures, c.tx_counters.ensures) at c.in_ok-write_own.ensures in
    end_of_text c.write_channels.result _ _ _ _ _ _ front c.write_channels.ensures refl

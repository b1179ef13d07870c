use Rattle.{std.proofs.Common.refl, macsec_script_printer.proofs.Pieces.end_of_text}
use Rattle.macsec_script_printer.proofs.counters.write_channel_and_associations.Goals as goal

pub returns : goal.returns
returns g c =
    let front = rw c.rx_counters.ensures.counters at c.in_ok-write_channel.ensures in
    end_of_text c.write_associations.result _ _ _ _ _ _ front c.write_associations.ensures refl

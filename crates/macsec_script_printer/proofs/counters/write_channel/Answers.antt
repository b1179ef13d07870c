use Rattle.std.proofs.Common.{rules}
use Rattle.macsec_script_printer.proofs.counters.write_channel.Goals as goal

pub returns-in-None : goal.returns-in-None
returns-in-None g c = search rules
